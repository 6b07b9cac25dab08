-- The rows of a tree and of a spill list as one map.
use Rattle.std.specs.Prelude.{◌≡◌, ℕ, false, ◌&&◌, List, ◌++◌, is_some}
use Rattle.std.specs.Ordering.{nat_cmp}
use Rattle.std.specs.FinMap as map
use Rattle.std.specs.FinMap.{FinMap, entries}

-- the tree's rows, and those of the list
unfoldable pub joined : {X : Type 0} → List (ℕ × X) → FinMap nat_cmp X → FinMap nat_cmp X
joined es m = map.from_entries (es ++ entries m)

-- no id is in both
abbrev pub IsApart : {X : Type 0} → List (ℕ × X) → FinMap nat_cmp X → Type 0
IsApart es m = (id : ℕ) → is_some (map.find nat_cmp id es) && is_some (map.get m id) ≡ false
