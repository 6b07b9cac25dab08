use Rattle.std.proofs.Common.{◌≡◌, ℕ, ◌+◌, ◌-◌, ◌≤◌, ◌&&◌, nat_le, nat_lt}
use Rattle.std.specs.List.{AllByRecursion}
use Rattle.gfx_asked.specs.Bounds.{holds}
use Rattle.gfx_asked.specs.Offsets.{are_in, IsForward}
use Rattle.gfx_asked.proofs.offsets.Offsets.moved.Given as goal

abbrev pub invariant-finding : goal.invariant-finding
invariant-finding l = record {
  high : l.at ≤ l.length;
  are : (j : ℕ) → are_in l.stretches.items j ≡ (nat_le l.target j && nat_lt j (l.target + l.at) && holds l.self.bounds (l.from + (j - l.target)));
  forward : AllByRecursion IsForward l.stretches.items;
}

abbrev pub decreases-finding : goal.decreases-finding
decreases-finding l = l.length - l.at
