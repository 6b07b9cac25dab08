use Rattle.std.proofs.Common.{◌<◌, refl, ap, length, get_or, arith}
use Rattle.gfx_recorder.proofs.Meetings.{sees-more, met-one}
use Rattle.gfx_recorder.proofs.phase.sweep.Goals as goal

pub workers-preserved : goal.workers-preserved
workers-preserved c =
    let i = c.workers in let m = c.meet.ensures in
    let less : i.worker-index < length i.others = (let a = i.invariant.len in let b = c.workers-test.true in omega arith) in
    met-one c.args.first.now c.args.others.now i.first i.others i.worker-index c.worker-item.result i.invariant less _ _
    (sees-more i.first _ _ _ m.one_capture refl m.one m.one_before)
    (sees-more (get_or i.others i.worker-index c.worker-item.result) _ _ _ m.other_capture refl m.other m.other_before)
    (ap (λ h. h.seen) m.other) m.longer
