-- The least id above a given one, of entries in any order.
use Rattle.std.specs.Prelude.{ℕ, List, [], ◌∷◌, min, nat_lt, Option, Some, None, if◌then◌else◌}

-- the lesser of two ids that there may be
abbrev pub lesser_of : Option ℕ → Option ℕ → Option ℕ
lesser_of None b = b
lesser_of (Some a) None = Some a
lesser_of (Some a) (Some b) = Some (min a b)

-- the least id of entries above the given one, where there is one
abbrev pub least_in : {X : Type 0} → ℕ → List (ℕ × X) → Option ℕ
least_in after [] = None
least_in after (e ∷ es) = lesser_of (if nat_lt after e.0 then Some e.0 else None) (least_in after es)
