-- A set of numbers, told by the places where it changes.
use Rattle.std.specs.Prelude.{◌≡◌, ℕ, zero, suc, ◌<◌, ◌&&◌, nat_le, nat_lt, Bool, false, if◌then◌else◌, Option, None, IsSome, unwrap_or}
use Rattle.std.specs.Ordering.{nat_cmp}
use Rattle.std.specs.BTreeMap as tree
use Rattle.std.specs.BTreeMap.{BTreeMap}

-- what the last change up to a number says, and no before the first
unfoldable pub at_last : (ℕ → Option Bool) → ℕ → Bool
at_last change zero = unwrap_or (change zero) false
at_last change (suc j) = unwrap_or (change (suc j)) (at_last change j)

-- what held before a number
abbrev pub earlier : (ℕ → Option Bool) → ℕ → Bool
earlier change zero = false
earlier change (suc j) = at_last change j

-- whether the numbers from here on are in the set, where that changes here
abbrev pub change_at : BTreeMap ℕ Bool → ℕ → Option Bool
change_at bounds = tree.get nat_cmp bounds

-- a number is in the set
abbrev pub holds : BTreeMap ℕ Bool → ℕ → Bool
holds bounds = at_last (change_at bounds)

-- nothing changes between these two
abbrev pub IsSteady : (ℕ → Option Bool) → ℕ → ℕ → Type 0
IsSteady change from to = (j : ℕ) → from < j → j < to → change j ≡ None

-- it is the first change between two numbers
pub record IsNext (change : ℕ → Option Bool) (from to next : ℕ) : Type 0 where
  pub after : from < next
  pub before : next < to
  pub changes : IsSome (change next)
  pub steady : IsSteady change from next

-- the numbers from one up to another are in the set or not, and the others as before
abbrev pub with_range : (ℕ → Bool) → ℕ → ℕ → Bool → ℕ → Bool
with_range old from to held j = if nat_le from j && nat_lt j to then held else old j
