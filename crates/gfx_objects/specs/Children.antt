-- How many children are counted, and which group an id belongs to.
use Rattle.std.specs.Prelude.{ℕ, ◌==◌, Bool, false, Option, unwrap_or}
use Rattle.std.specs.Option.{option_map_or}
use Rattle.std.specs.Ordering.{nat_cmp}
use Rattle.std.specs.FinMap as map
use Rattle.std.specs.FinMap.{FinMap}

-- the children of a parent
unfoldable pub count_of : FinMap nat_cmp ℕ → ℕ → ℕ
count_of counts parent = unwrap_or (map.get counts parent) 0

-- the group, where there is one, is this
abbrev pub is_at : ℕ → Option ℕ → Bool
is_at group its = option_map_or (λ g. g == group) its false
