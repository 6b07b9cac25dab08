use Rattle.std.proofs.Common.{◌≡◌, ℕ, map, take, drop}
use Rattle.gfx_model.specs.Checks as words
use Rattle.gfx_rules.specs.Turns.{signals_after, signals_behind}
use Rattle.gfx_rules.proofs.turns.waits_fault.Given as goal

abbrev pub invariant-waits : goal.invariant-waits
invariant-waits g l = let v = g.A.Answers.view l.answers in let f = signals_behind v.signalled l.submits in (layout : ℕ → ℕ) →
    words.turns_fault v (signals_after f (map words.Turn.wait (take l.at l.waits))) layout (map words.Turn.wait (drop l.at l.waits))
    ≡ words.turns_fault v f layout (map words.Turn.wait l.waits)
