-- Rows that stand one after another, and the places of their ids.
use Rattle.std.specs.Prelude.{◌≡◌, ℕ, ◌==◌, Bool, List, Option, Some, None, length, slice_get}
use Rattle.std.specs.List.{list_any}
use Rattle.std.specs.Ordering.{nat_cmp}
use Rattle.std.specs.FinMap as map
use Rattle.std.specs.FinMap.{FinMap}
use Rattle.gfx_table.specs.Values.{with_rows}

-- the id is in the list
abbrev pub is_listed : ℕ → List ℕ → Bool
is_listed id ids = list_any (λ x. x == id) ids

-- each id occurs once in the list
abbrev pub StandApart : List ℕ → Type 0
StandApart ids = (i j id : ℕ) → slice_get ids i ≡ Some id → slice_get ids j ≡ Some id → i ≡ j

-- under each id the row at its place
unfoldable pub rows_of : {X : Type 0} → List X → FinMap nat_cmp ℕ → FinMap nat_cmp X
rows_of rows places = with_rows (λ id place. slice_get rows place) places

-- the places once the id, where there is one, is placed there
abbrev pub settled : FinMap nat_cmp ℕ → Option ℕ → ℕ → FinMap nat_cmp ℕ
settled places None place = places
settled places (Some id) place = map.insert places id place

-- each id is in the list at its place, and there is a row for each
pub record IsDense (ids : List ℕ) (count : ℕ) (places : FinMap nat_cmp ℕ) : Type 0 where
  pub found : (id place : ℕ) → map.get places id ≡ Some place → slice_get ids place ≡ Some id
  pub placed : (id place : ℕ) → slice_get ids place ≡ Some id → map.get places id ≡ Some place
  pub each : length ids ≡ count
