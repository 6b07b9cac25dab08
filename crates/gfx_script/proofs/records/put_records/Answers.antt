use Rattle.std.proofs.Common.{◌≤◌, length, sym, subst}
use Rattle.gfx_script.proofs.PutRecords.{room}
use Rattle.gfx_script.proofs.records.put_records.Goals as goal

pub put-requires : goal.put-requires
put-requires g c =
    subst (λ item. length (g.T.RecordIds.named item) ≤ length c.records.left.now) (sym c.record-item.is)
    (room g.T.RecordIds.named g.T.RecordIds.blank c.args.records.now c.records.record-index c.record-item.result c.args.ids.now c.records.put.items c.records.left.now
    c.records-test.true c.requires c.records.invariant)
