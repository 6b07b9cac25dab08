use Rattle.std.proofs.Common.{◌≤◌, length, drop}
use Rattle.gfx_asked.specs.Accesses.{asked_before}
use Rattle.gfx_asked.specs.Asked.{questions, AreSame}
use Rattle.gfx_asked.proofs.accesses.Accesses.asked.Given as goal

abbrev pub invariant-back : goal.invariant-back
invariant-back l = record {
  within : l.at ≤ length l.self-inside.items.items;
  same : AreSame (questions l.asked) (asked_before (drop l.at l.self-inside.items.items));
}

abbrev pub decreases-back : goal.decreases-back
decreases-back l = l.at
