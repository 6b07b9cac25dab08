-- Which of some bytes are not zero.
use Rattle.std.specs.Prelude.{◌≡◌, ℕ, ◌-◌, ◌<◌, ◌≤◌, List, length, slice_index}

-- no byte is other than zero
abbrev pub IsZero : List ℕ → Type 0
IsZero bytes = (k : ℕ) → slice_index bytes k ≡ 0

-- the bytes that are not zero lie from `from` to below `end`, and there are such bytes at both ends
pub record IsUsed (bytes : List ℕ) (from end : ℕ) : Type 0 where
  pub some : from < end
  pub within : end ≤ length bytes
  pub first : ¬ (slice_index bytes from ≡ 0)
  pub last : ¬ (slice_index bytes (end - 1) ≡ 0)
  pub all : (k : ℕ) → ¬ (slice_index bytes k ≡ 0) → (from ≤ k) × (k < end)
