use Rattle.std.proofs.Common.{map, take, arith}
use Rattle.gfx_model.specs.Checks as words
use Rattle.gfx_rules.specs.Turns.{signals_after, signals_behind}
use Rattle.gfx_rules.proofs.Signals.{wait_breaks, wait_passes, waits_end}
use Rattle.gfx_rules.proofs.turns.waits_fault.Goals as goal

pub returns-then-not-is_signalled_behind : goal.returns-then-not-is_signalled_behind
returns-then-not-is_signalled_behind g c = λ l. let v = g.A.Answers.view c.args.answers.now in
    wait_breaks v (signals_behind v.signalled c.args.submits.now) l c.args.waits.now c.waits.at _ _ (omega arith)
    c.is_signalled_behind.ensures c.if-not-is_signalled_behind.true (c.waits.invariant l)

pub waits-preserved : goal.waits-preserved
waits-preserved g c = λ l. let v = g.A.Answers.view c.args.answers.now in
    wait_passes v (signals_behind v.signalled c.args.submits.now) l c.args.waits.now c.waits.at _ _ (omega arith)
    c.is_signalled_behind.ensures c.if-not-is_signalled_behind.false (c.waits.invariant l)

pub returns : goal.returns
returns g c = λ l. let v = g.A.Answers.view c.args.answers.now in
    waits_end v (signals_after (signals_behind v.signalled c.args.submits.now) (map words.Turn.wait (take c.waits.at c.args.waits.now))) l c.args.waits.now c.waits.at _ (omega arith) (c.waits.invariant l)
