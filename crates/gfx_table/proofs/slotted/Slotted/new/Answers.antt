use Rattle.std.proofs.Common.{ap}
use Rattle.gfx_table.specs.Slotted.{filled}
use Rattle.gfx_table.proofs.Joining.{joined_empty}
use Rattle.gfx_table.proofs.slotted.Slotted.new.Goals as goal

pub returns : goal.returns
returns g c = joined_empty _ _ (ap filled c.new.ensures.items) c.new-2.ensures
