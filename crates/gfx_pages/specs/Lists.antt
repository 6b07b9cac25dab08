-- What the calls leave of a list of bytes.
use Rattle.std.specs.Prelude.{◌≡◌, ℕ, ◌+◌, ◌%◌, List, ◌++◌, length, take, drop, map, slice_index}
use Rattle.std.specs.List.{range_with_len}
use Rattle.std.specs.Int.{to_le_bytes, w32}

-- a list with another in the place of its elements from `at` on
abbrev pub overwrite : List ℕ → ℕ → List ℕ → List ℕ
overwrite xs at new = take at xs ++ new ++ drop (at + length new) xs

-- all but the n elements from `at` on are as they were
abbrev pub KeepsOutside : List ℕ → List ℕ → ℕ → ℕ → Type 0
KeepsOutside old new at n = (take at new ≡ take at old) × (drop (at + n) new ≡ drop (at + n) old) × (length new ≡ length old)

-- n bytes of a word that is repeated, its least significant byte first
abbrev pub repeated : ℕ → ℕ → List ℕ
repeated word n = map (λ k. slice_index (to_le_bytes w32 word) (k % 4)) (range_with_len 0 n)
