use Rattle.gfx_table.proofs.Places.{map_of-empty}
use Rattle.gfx_table.proofs.spill.SpillList.new.Goals as goal

pub returns : goal.returns
returns g c = map_of-empty c.new.result.items c.new.ensures.items
