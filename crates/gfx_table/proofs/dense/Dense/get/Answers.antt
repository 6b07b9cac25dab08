use Rattle.std.proofs.Common.{slice_get, option_and_then, sym, ap, ◌∙◌}
use Rattle.std.specs.FinMap as map
use Rattle.gfx_table.specs.IdList.{places_in}
use Rattle.gfx_table.proofs.Densing.{item_at, get-rows_of}
use Rattle.gfx_table.proofs.dense.Dense.get.Goals as goal

pub returns-in-Some : goal.returns-in-Some
returns-in-Some g c =
    item_at c.deref.result.now c.in-Some.place c.get.result c.get.ensures.lookup ∙ ap (λ rows. slice_get rows c.in-Some.place) c.deref.ensures.value
    ∙ ap (option_and_then (slice_get c.self.inside.rows.items)) c.in-Some.ensures
    ∙ sym (get-rows_of c.self.inside.rows.items (places_in c.self.inside.ids.items) c.args.id)
    ∙ ap (λ s. map.get s.map c.args.id) c.self.view_is

pub returns-in-None : goal.returns-in-None
returns-in-None g c =
    ap (option_and_then (slice_get c.self.inside.rows.items)) c.in-None.ensures
    ∙ sym (get-rows_of c.self.inside.rows.items (places_in c.self.inside.ids.items) c.args.id)
    ∙ ap (λ s. map.get s.map c.args.id) c.self.view_is
