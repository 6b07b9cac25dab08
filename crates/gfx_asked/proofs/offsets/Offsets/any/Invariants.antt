use Rattle.std.proofs.Common.{◌≡◌, ℕ, ◌-◌, ◌≤◌, ◌<◌, false}
use Rattle.gfx_asked.specs.Bounds.{holds}
use Rattle.gfx_asked.proofs.offsets.Offsets.any.Given as goal

abbrev pub invariant-looking : goal.invariant-looking
invariant-looking l = record {
  low : l.from ≤ l.at;
  none : (j : ℕ) → l.from ≤ j → j < l.at → holds l.self.bounds j ≡ false;
}

abbrev pub decreases-looking : goal.decreases-looking
decreases-looking l = l.to - l.at
