use Rattle.std.proofs.Common.{ap, ◌∙◌}
use Rattle.gfx_table.specs.Stored.{stored}
use Rattle.gfx_table.proofs.Storing.{same_stored}
use Rattle.gfx_table.proofs.stored.Stored.reserve.Goals as goal

pub returns-clause-map : goal.returns-clause-map
returns-clause-map g c =
    ap (stored c.reserve-2.new.self) c.reserve.ensures.map ∙ same_stored c.self.inside.rows c.reserve-2.new.self c.self.inside.keys.map (ap (λ s. s.slots) c.reserve-2.ensures.rest_kept) ∙ ap (λ s. s.map) c.self.view_is
