use Rattle.std.proofs.Common.{ap, ◌∙◌}
use Rattle.gfx_table.specs.IdSet.{holds}
use Rattle.gfx_table.proofs.Bits.{holds-same}
use Rattle.gfx_table.proofs.id_set.IdSet.reserve.Goals as goal

pub returns-clause-ids : goal.returns-clause-ids
returns-clause-ids c = holds-same _ _ c.reserve.ensures.map ∙ ap holds c.self.view_is
