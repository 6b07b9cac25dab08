use Rattle.std.proofs.Common.{refl}
use Rattle.std.specs.Prelude.{map}
use Rattle.gfx_grammar.specs.Reading.{read_list}
use Rattle.gfx_params.proofs.Items.{list_goes_on, list_ends, item_follows, map-one_more}
use Rattle.gfx_params.proofs.lists.read_items.Goals as goal

pub read-requires : goal.read-requires
read-requires g c k = (
  (refl, tt),
  item_follows g.T.ReadFields.reader (map g.T.ReadFields.seen c.items.items.items) c.in-Some.count c.items.counter c.items.rest.now
      (read_list g.T.ReadFields.reader c.args.bytes.now) c.items-test.true c.requires c.items.invariant,
)

pub items-preserved : goal.items-preserved
items-preserved g c =
    rw (c.in_ok-push.ensures.items, map-one_more g.T.ReadFields.seen c.items.items.items c.in_ok-item.item)
    (list_goes_on g.T.ReadFields.reader (map g.T.ReadFields.seen c.items.items.items) c.in-Some.count c.items.counter c.items.rest.now c.in_ok-item.after.now
    (g.T.ReadFields.seen c.in_ok-item.item) (read_list g.T.ReadFields.reader c.args.bytes.now) c.items-test.true c.in_ok-item.ensures c.items.invariant)

pub returns : goal.returns
returns g c =
    list_ends g.T.ReadFields.reader (map g.T.ReadFields.seen c.items.items.items) c.in-Some.count c.items.counter c.items.rest.now
    (read_list g.T.ReadFields.reader c.args.bytes.now) c.items-test.false c.items.invariant
