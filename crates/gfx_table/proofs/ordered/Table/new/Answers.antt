use Rattle.gfx_table.proofs.Joining.{joined_empty}
use Rattle.gfx_table.proofs.ordered.Table.new.Goals as goal

pub returns : goal.returns
returns g c = joined_empty _ _ c.new.ensures.empty c.new-2.ensures
