use Rattle.gfx_table.proofs.Bits.{holds-empty}
use Rattle.gfx_table.proofs.id_set.IdSet.new.Goals as goal

pub returns : goal.returns
returns c = holds-empty _ c.new.ensures
