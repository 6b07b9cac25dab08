use Rattle.gfx_text.proofs.Answered.{reads_none, reads_some}
use Rattle.gfx_text.proofs.Items.{list_breaks, list_closes, list_goes_on, list_stops, list_spent, map-one_more}
use Rattle.gfx_text.proofs.lists.read_items.Goals as goal

pub returns-in_default : goal.returns-in_default
returns-in_default g c = list_breaks _ _ _ _ _ _ c.items-test.true c.items.invariant (reads_none _ _ _ c.in_default.is c.in_ok-item.ensures)

pub returns-in-Some-behind : goal.returns-in-Some-behind
returns-in-Some-behind g c =
    rw (c.in_ok-push.ensures.items, map-one_more g.T.ReadValue.seen c.items.items.items c.in-Some.item)
    (list_closes _ _ _ _ _ _ c.items-test.true c.items.invariant (g.T.ReadValue.seen c.in-Some.item) c.in-Some.after.now c.in-Some-behind.end.now
    (reads_some _ _ _ (c.in-Some.item, c.in-Some.after) c.in-Some.is c.in_ok-item.ensures) c.in-Some-behind.ensures)

pub returns-in-None : goal.returns-in-None
returns-in-None g c =
    list_stops _ _ _ _ _ _ c.items-test.true c.items.invariant (g.T.ReadValue.seen c.in-Some.item) c.in-Some.after.now
    (reads_some _ _ _ (c.in-Some.item, c.in-Some.after) c.in-Some.is c.in_ok-item.ensures) c.in_default-behind.ensures c.in-None.ensures

pub items-preserved : goal.items-preserved
items-preserved g c =
    rw (c.in_ok-push.ensures.items, map-one_more g.T.ReadValue.seen c.items.items.items c.in-Some.item)
    (list_goes_on _ _ _ _ _ _ c.items-test.true c.items.invariant (g.T.ReadValue.seen c.in-Some.item) c.in-Some.after.now c.in-Some-behind-2.more.now
    (reads_some _ _ _ (c.in-Some.item, c.in-Some.after) c.in-Some.is c.in_ok-item.ensures) c.in_default-behind.ensures c.in-Some-behind-2.ensures)

pub returns : goal.returns
returns g c = list_spent _ _ _ _ _ _ c.items-test.false c.items.invariant
