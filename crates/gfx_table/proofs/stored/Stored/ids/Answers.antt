use Rattle.std.proofs.Common.{ap}
use Rattle.std.specs.FinMap as map
use Rattle.gfx_table.proofs.Storing.{stored_ids}
use Rattle.gfx_table.proofs.stored.Stored.ids.Goals as goal

pub returns : goal.returns
returns g c = rw (← ap (λ s. map.keys s.map) c.self.view_is, ← stored_ids c.self.inside.rows c.self.inside.keys.map c.self.invariant) c.ids.ensures
