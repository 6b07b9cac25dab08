use Rattle.std.proofs.Common.{◌≡◌, ◌≤◌, ℕ, Bool, map, flat_map, take, drop, IfSome}
use Rattle.gfx_model.specs.Checks as words
use Rattle.gfx_model.specs.Layouts.{layouts_by}
use Rattle.gfx_rules.proofs.Executed.{here}
use Rattle.gfx_rules.proofs.turns.executes_fault.Given as goal

abbrev pub invariant-cbs : goal.invariant-cbs
invariant-cbs g l = let v = g.A.Answers.view l.answers in let before = flat_map (λ s. s.cbs) (take l.submit l.submits) in
    (IfSome l.differing (λ place. (l.submit ≤ place.0) × (l.submit ≡ place.0 → l.at ≤ place.1)))
    × ((f : ℕ → Bool) → words.turns_fault v f (here v before l.cbs l.at) (map words.Turn.execute (drop l.at l.cbs))
    ≡ words.turns_fault v f (layouts_by v.buffer v.layout before) (map words.Turn.execute l.cbs))
