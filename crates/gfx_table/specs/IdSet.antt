-- Which ids a set holds, of which each 64 in a row are in one word.
use Rattle.std.specs.Prelude.{ℕ, ◌/◌, ◌%◌, ◌==◌, Bool, false, Option, Some, None}
use Rattle.std.specs.Int.{bit_at}
use Rattle.std.specs.FinMap as map
use Rattle.gfx_table.specs.Slots.{Slots}

-- there is a word, and its bit at this place is 1
abbrev pub has_bit : Option ℕ → ℕ → Bool
has_bit None place = false
has_bit (Some word) place = bit_at word place == 1

-- the id is in the set
unfoldable pub holds : Slots ℕ → ℕ → Bool
holds words id = has_bit (map.get words.map (id / 64)) (id % 64)
