use Rattle.std.proofs.Common.{◌≡◌, ◌≤◌, flat_map, IfSome}
use Rattle.gfx_model.specs.Checks as words
use Rattle.gfx_rules.proofs.Executed.{from}
use Rattle.gfx_rules.proofs.turns.submits_fault.Given as goal

abbrev pub invariant-submits : goal.invariant-submits
invariant-submits g l = let v = g.A.Answers.view l.answers in
    (IfSome l.differing (λ place. l.at ≤ place.0))
    × (from v l.submits l.at ≡ words.turns_fault v v.signalled v.layout (flat_map words.turns_of_submit l.submits))
