use Rattle.std.proofs.Common.{◌≡◌, ℕ, map, take, drop}
use Rattle.gfx_model.specs.Checks as words
use Rattle.gfx_rules.specs.Turns.{signals_after, signals_behind}
use Rattle.gfx_rules.proofs.turns.signals_fault.Given as goal

abbrev pub invariant-signals : goal.invariant-signals
invariant-signals g l = let v = g.A.Answers.view l.answers in
    let f = signals_after (signals_behind v.signalled l.submits) (map words.Turn.wait l.waits) in (layout : ℕ → ℕ) →
    words.turns_fault v (signals_after f (map words.Turn.signal (take l.at l.signals))) layout (map words.Turn.signal (drop l.at l.signals))
    ≡ words.turns_fault v f layout (map words.Turn.signal l.signals)
