-- The number in four or eight bytes, as `byteorder` reads it and as std says it.
use Rattle.std.proofs.Common.{◌≡◌, ℕ, ◌<◌, List, take, slice_index, arith}
use Rattle.std.proofs.lemmas.List.{get_or-take}
use Rattle.std.specs.Int.{from_le_bytes, w32, w64}
use Rattle.byteorder.specs.Endian.{little_number}

kept : (n : ℕ) (xs : List ℕ) (i : ℕ) → i < n → slice_index (take n xs) i ≡ slice_index xs i
kept n xs i below = get_or-take n xs i 0 below

pub little_four : (xs : List ℕ) → little_number 4 xs ≡ from_le_bytes w32 (take 4 xs)
little_four xs = omega (arith, kept 4 xs 0 (omega arith), kept 4 xs 1 (omega arith), kept 4 xs 2 (omega arith), kept 4 xs 3 (omega arith))

pub little_eight : (xs : List ℕ) → little_number 8 xs ≡ from_le_bytes w64 (take 8 xs)
little_eight xs = omega (
  arith,
  kept 8 xs 0 (omega arith),
  kept 8 xs 1 (omega arith),
  kept 8 xs 2 (omega arith),
  kept 8 xs 3 (omega arith),
  kept 8 xs 4 (omega arith),
  kept 8 xs 5 (omega arith),
  kept 8 xs 6 (omega arith),
  kept 8 xs 7 (omega arith),
)
