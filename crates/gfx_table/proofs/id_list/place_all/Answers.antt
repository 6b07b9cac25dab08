use Rattle.std.proofs.Common.{take, get_or, ap, ◌∙◌, arith}
use Rattle.std.specs.FinMap as map
use Rattle.gfx_table.specs.IdList.{places_from}
use Rattle.gfx_table.proofs.Placing.{more_placed, no_place, not_before}
use Rattle.gfx_table.proofs.id_list.place_all.Goals as goal

pub ids-init : goal.ids-init
unfolding places_from
ids-init c = (c.requires.none, omega arith)

pub insert-requires-clause-new : goal.insert-requires-clause-new
insert-requires-clause-new c =
    let ids = c.args.ids.now in
    ap (λ m. map.get m (get_or ids c.ids.place 0)) c.ids.invariant.0 ∙ no_place (take c.ids.place ids) (get_or ids c.ids.place 0) (not_before ids c.ids.place 0 c.requires.apart c.ids-test.true)

pub ids-preserved : goal.ids-preserved
ids-preserved c = (
  c.insert.ensures.map ∙ rw c.ids.invariant.0 (more_placed c.args.ids.now c.ids.place 0 c.requires.apart c.ids-test.true),
  omega (arith, c.ids.invariant.1, c.insert.ensures.spare),
)
