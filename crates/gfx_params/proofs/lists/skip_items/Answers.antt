use Rattle.std.proofs.Common.{◌++◌, ◌∷◌, []}
use Rattle.gfx_params.proofs.Items.{list_goes_on, list_breaks, list_ends}
use Rattle.gfx_params.proofs.lists.skip_items.Goals as goal

pub items-preserved : goal.items-preserved
items-preserved g c =
    let (front, so_far) = c.items.invariant in
    let (x, is) = c.in-Some-skip.ensures in
    (front ++ x ∷ [], list_goes_on g.T.ReadFields.reader front c.in-Some.count c.items.counter c.items.rest.now c.in-Some-skip.after.now x _ c.items-test.true is so_far)

pub returns-in-None : goal.returns-in-None
returns-in-None g c =
    let (front, so_far) = c.items.invariant in
    list_breaks g.T.ReadFields.reader front c.in-Some.count c.items.counter c.items.rest.now _ c.items-test.true c.in-None.ensures so_far

pub returns : goal.returns
returns g c =
    let (front, so_far) = c.items.invariant in
    (front, list_ends g.T.ReadFields.reader front c.in-Some.count c.items.counter c.items.rest.now _ c.items-test.false so_far)
