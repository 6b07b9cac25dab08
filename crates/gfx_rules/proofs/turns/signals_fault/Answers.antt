use Rattle.std.proofs.Common.{map, take, arith}
use Rattle.gfx_model.specs.Checks as words
use Rattle.gfx_rules.specs.Turns.{signals_after, signals_behind}
use Rattle.gfx_rules.proofs.Signals.{signal_breaks, signal_passes, signals_end}
use Rattle.gfx_rules.proofs.turns.signals_fault.Goals as goal

pub returns-then-is_signalled_now : goal.returns-then-is_signalled_now
returns-then-is_signalled_now g c = λ l. let v = g.A.Answers.view c.args.answers.now in
    signal_breaks v (signals_after (signals_behind v.signalled c.args.submits.now) (map words.Turn.wait c.args.waits.now)) l c.args.signals.now c.signals.at _ _ (omega arith)
    c.is_signalled_now.ensures c.if-is_signalled_now.true (c.signals.invariant l)

pub signals-preserved : goal.signals-preserved
signals-preserved g c = λ l. let v = g.A.Answers.view c.args.answers.now in
    signal_passes v (signals_after (signals_behind v.signalled c.args.submits.now) (map words.Turn.wait c.args.waits.now)) l c.args.signals.now c.signals.at _ _ (omega arith)
    c.is_signalled_now.ensures c.if-is_signalled_now.false (c.signals.invariant l)

pub returns : goal.returns
returns g c = λ l. let v = g.A.Answers.view c.args.answers.now in
    let f = signals_after (signals_behind v.signalled c.args.submits.now) (map words.Turn.wait c.args.waits.now) in
    signals_end v (signals_after f (map words.Turn.signal (take c.signals.at c.args.signals.now))) l c.args.signals.now c.signals.at _ (omega arith) (c.signals.invariant l)
