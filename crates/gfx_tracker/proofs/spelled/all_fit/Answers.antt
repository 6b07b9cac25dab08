use Rattle.std.specs.List.{AllByRecursion}
use Rattle.gfx_model.specs.Spelling.{FieldFits}
use Rattle.gfx_tracker.proofs.ReadItems.{one_more, all_read}
use Rattle.gfx_tracker.proofs.spelled.all_fit.Goals as goal

pub records-preserved : goal.records-preserved
records-preserved g c =
    one_more (λ item. AllByRecursion FieldFits (g.T.Record.fields item)) c.args.items.now c.records.item-index c.item-item.result c.records-test.true c.item-item.is
    c.records.invariant c.fits.ensures

pub returns : goal.returns
returns g c = (c.requires, all_read g.T.Record.fields c.args.items.now c.records.item-index c.records-test.false c.records.invariant)
