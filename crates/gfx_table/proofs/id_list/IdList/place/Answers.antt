use Rattle.std.proofs.Common.{◌≡◌, Some, slice_get, subst, sym, ap, ◌∙◌}
use Rattle.std.specs.Prelude.{IfSome}
use Rattle.std.specs.FinMap as map
use Rattle.gfx_table.specs.Dense.{is_listed}
use Rattle.gfx_table.specs.IdList.{places_in}
use Rattle.gfx_table.proofs.Placing.{sought}
use Rattle.gfx_table.proofs.id_list.IdList.place.Goals as goal

pub returns-else-self : goal.returns-else-self
returns-else-self c =
    sought c.self.inside.ids.items c.args.id c.place_among.result c.self.invariant.apart
    (λ p is. ap (λ l. slice_get l p) (sym c.deref.ensures.value) ∙ subst (λ o. IfSome o (λ place. slice_get c.deref.result.now place ≡ Some c.args.id)) is c.place_among.ensures.some)
    (λ is. ap (is_listed c.args.id) (sym c.deref.ensures.value) ∙ c.place_among.ensures.none is)
    ∙ ap (λ s. map.get (places_in s.items) c.args.id) c.self.view_is
