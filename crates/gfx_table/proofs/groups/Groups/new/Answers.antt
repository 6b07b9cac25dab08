use Rattle.gfx_table.proofs.Grouping.{no_members}
use Rattle.gfx_table.proofs.groups.Groups.new.Goals as goal

pub returns : goal.returns
returns c = no_members c.new.result.map c.new.ensures
