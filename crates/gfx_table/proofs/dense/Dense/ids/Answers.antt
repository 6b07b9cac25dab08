use Rattle.std.proofs.Common.{is_some, ap, ◌∙◌}
use Rattle.std.specs.FinMap as map
use Rattle.gfx_table.specs.Dense.{is_listed}
use Rattle.gfx_table.specs.IdList.{places_in}
use Rattle.gfx_table.proofs.Densing.{listed_some}
use Rattle.gfx_table.proofs.dense.Dense.ids.Goals as goal

pub returns-clause-all : goal.returns-clause-all
returns-clause-all g c id =
    ap (is_listed id) c.items.ensures.items ∙ listed_some c.self.inside.ids.items c.self.inside.rows.items (places_in c.self.inside.ids.items) c.self.invariant id
    ∙ ap (λ s. is_some (map.get s.map id)) c.self.view_is
