-- Which ids are in the set under an id.
use Rattle.std.specs.Prelude.{ℕ, Bool, is_some}
use Rattle.std.specs.Option.{option_map_or}
use Rattle.std.specs.Ordering.{nat_cmp}
use Rattle.std.specs.FinMap as map
use Rattle.std.specs.FinMap.{FinMap}
use Rattle.gfx_table.specs.Slots.{Slots}

-- the members that are kept of a set
unfoldable pub members_of : FinMap nat_cmp (Slots (Unit {0})) → ℕ → FinMap nat_cmp (Unit {0})
members_of sets group = option_map_or (λ s. s.map) (map.get sets group) map.empty

-- the id is in the set
abbrev pub is_member : FinMap nat_cmp (Slots (Unit {0})) → ℕ → ℕ → Bool
is_member sets group id = is_some (map.get (members_of sets group) id)

-- how many more members of the set there is room for
unfoldable pub room_in : FinMap nat_cmp (Slots (Unit {0})) → ℕ → ℕ
room_in sets group = option_map_or (λ s. s.spare) (map.get sets group) 0
