-- The marks of the ids that a table may have.
use Rattle.std.specs.Prelude.{◌≡◌, ℕ, ◌-◌, bit_and, Bool, true, List, length, is_some, slice_index_or}
use Rattle.std.specs.Ordering.{nat_cmp}
use Rattle.std.specs.FinMap as map
use Rattle.std.specs.FinMap.{FinMap}

-- where the mark of an id is among so many: at its last bits, where their number is a power of two
abbrev pub place_in : ℕ → ℕ → ℕ
place_in marks id = bit_and id (marks - 1)

-- the mark of an id, which each has where there are none
abbrev pub mark_at : List Bool → ℕ → Bool
mark_at marks id = slice_index_or marks (place_in (length marks) id) true

-- each id that has a row has a mark
abbrev pub AreMarked : {X : Type 0} → List Bool → FinMap nat_cmp X → Type 0
AreMarked marks m = (id : ℕ) → is_some (map.get m id) ≡ true → mark_at marks id ≡ true
