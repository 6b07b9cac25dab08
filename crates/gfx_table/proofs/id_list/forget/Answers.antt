use Rattle.std.proofs.Common.{◌+◌, drop, arith}
use Rattle.std.proofs.lemmas.List.{drop_all}
use Rattle.gfx_table.proofs.Densing.{less_placed, none_placed_in}
use Rattle.gfx_table.proofs.Placing.{listed_placed, next_of}
use Rattle.gfx_table.proofs.id_list.forget.Goals as goal

pub ids-init : goal.ids-init
ids-init c = (λ q some. listed_placed c.args.ids.now q (rw c.requires at some), omega arith)

pub ids-preserved : goal.ids-preserved
ids-preserved c = (
  λ q some. less_placed (drop c.ids.id-index c.args.ids.now) (drop (c.ids.id-index + 1) c.args.ids.now) c.ids.places.map _ (next_of c.args.ids.now c.ids.id-index _ c.ids-test.true) c.ids.invariant.0 q
      (rw c.remove-place.ensures.map at some),
  omega (arith, c.ids.invariant.1, c.remove-place.ensures.spare),
)

pub returns-clause-places : goal.returns-clause-places
returns-clause-places c = none_placed_in (drop c.ids.id-index c.args.ids.now) c.ids.places.map (drop_all c.ids.id-index c.args.ids.now c.ids-test.false) c.ids.invariant.0
