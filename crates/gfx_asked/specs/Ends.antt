-- Sets that end below 2^64 - 1.
use Rattle.std.specs.Prelude.{◌≡◌, ℕ, ◌+◌, ◌≤◌, ◌^◌, Bool, false}
use Rattle.std.specs.BTreeMap.{BTreeMap}
use Rattle.gfx_asked.specs.Bounds.{holds}

-- no number of 64 bits is the last of the set
abbrev pub EndsInside : BTreeMap ℕ Bool → Type 0
EndsInside bounds = (j : ℕ) → 2 ^ 64 ≤ j + 1 → holds bounds j ≡ false
