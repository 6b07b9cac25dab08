use Rattle.std.proofs.Common.{map}
use Rattle.gfx_model.specs.Checks as words
use Rattle.gfx_rules.specs.Turns.{signals_after, signals_behind}
use Rattle.gfx_rules.proofs.Signals.{is_signal, unsignalled}
use Rattle.gfx_rules.proofs.turns.is_signalled_now.Goals as goal

pub returns-then-is_among : goal.returns-then-is_among
returns-then-is_among g c =
    is_signal (signals_after (signals_behind (g.A.Answers.view c.args.answers.now).signalled c.args.submits.now) (map words.Turn.wait c.args.waits.now))
    c.args.signals.now c.args.id _ c.is_among.ensures c.if-is_among.true

pub returns-else-is_among : goal.returns-else-is_among
returns-else-is_among g c =
    unsignalled (signals_after (signals_behind (g.A.Answers.view c.args.answers.now).signalled c.args.submits.now) (map words.Turn.wait c.args.waits.now))
    c.args.signals.now c.args.id _ _ c.is_among.ensures c.if-is_among.false c.is_signalled_behind.ensures
