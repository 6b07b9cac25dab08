use Rattle.gfx_rules.specs.Turns.{signals_behind}
use Rattle.gfx_rules.proofs.Signals.{unwaited, is_waited}
use Rattle.gfx_rules.proofs.turns.is_signalled_behind.Goals as goal

pub returns-then-not-is_among : goal.returns-then-not-is_among
returns-then-not-is_among g c =
    unwaited (signals_behind (g.A.Answers.view c.args.answers.now).signalled c.args.submits.now) c.args.waits.now c.args.id _ _
    c.is_among.ensures c.if-not-is_among.true c.is_signalled_after.ensures

pub returns-else-not-is_among : goal.returns-else-not-is_among
returns-else-not-is_among g c =
    is_waited (signals_behind (g.A.Answers.view c.args.answers.now).signalled c.args.submits.now) c.args.waits.now c.args.id _
    c.is_among.ensures c.if-not-is_among.false
