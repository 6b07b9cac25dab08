use Rattle.std.proofs.Common.{◌≡◌, take}
use Rattle.gfx_rules.specs.Turns.{signals_behind}
use Rattle.gfx_rules.proofs.turns.is_signalled_after.Given as goal

abbrev pub invariant-submits : goal.invariant-submits
invariant-submits g l = l.is ≡ signals_behind (g.A.Answers.view l.answers).signalled (take l.submit-index l.submits) l.id
