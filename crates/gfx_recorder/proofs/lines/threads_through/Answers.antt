use Rattle.std.proofs.Common.{arith}
use Rattle.gfx_recorder.proofs.Threads.{part-low, still-none}
use Rattle.gfx_recorder.proofs.lines.threads_through.Goals as goal

pub overflow_add-part : goal.overflow_add-part
overflow_add-part c =
    let low = part-low c.args.parts.now c.parts.part-index c.part-item.result c.parts-test.true c.part-item.is c.requires.few in omega arith

pub parts-preserved : goal.parts-preserved
parts-preserved c =
    let i = c.parts.part-index in let p = c.part-item.result in let now = c.max-greatest.ensures in
    let low = part-low c.args.parts.now i p c.parts-test.true c.part-item.is c.requires.few in
    let more = c.parts.invariant.more in let few = c.parts.invariant.few in record {
      more = omega arith;
      few = omega arith;
      above = λ t over. still-none c.args.parts.now i p c.parts-test.true c.part-item.is t (c.parts.invariant.above t (omega arith)) (omega arith);
    }
