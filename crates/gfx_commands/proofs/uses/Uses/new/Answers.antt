use Rattle.gfx_commands.proofs.Index.{empty_index}
use Rattle.gfx_commands.proofs.uses.Uses.new.Goals as goal

pub returns : goal.returns
returns c = empty_index c.new.result.map c.new.ensures
