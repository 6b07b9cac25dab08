-- Ids that stand one after another, and where each stands.
use Rattle.std.specs.Prelude.{◌≡◌, ℕ, suc, Bool, List, [], ◌∷◌, min, cond, refl}
use Rattle.std.specs.Coded.{Coded, code_by, coded×, coded_ℕ, coded_list}
use Rattle.std.specs.Ordering.{nat_cmp}
use Rattle.std.specs.FinMap as map
use Rattle.std.specs.FinMap.{FinMap}
use Rattle.gfx_table.specs.Dense.{StandApart}

-- ids one after another, and room for more
pub record Ids : Type 0 where
  pub items : List ℕ
  -- how many new ids there is room for
  pub spare : ℕ

-- how the logic stores it, as its fields in a row
abbrev pub ids_code : Coded Ids
ids_code = code_by (List ℕ × ℕ) (coded× (coded_list coded_ℕ) coded_ℕ) (λ s. (s.items, s.spare)) (λ p. record { items = p.0; spare = p.1 }) (λ _. refl)

-- the places of ids, the first of which is at this one
unfoldable pub places_from : ℕ → List ℕ → FinMap nat_cmp ℕ
places_from place [] = map.empty
places_from place (id ∷ ids) = map.insert (places_from (suc place) ids) id place

-- the place of each id of a list
abbrev pub places_in : List ℕ → FinMap nat_cmp ℕ
places_in ids = places_from 0 ids

-- room among the ids, and where places are kept among these too
abbrev pub room : Bool → ℕ → ℕ → ℕ
room is_placed free spare = cond is_placed (min free spare) free

-- each id occurs once, and no place is kept, or those of all
pub record IsPlaced (ids : List ℕ) (is_placed : Bool) (places : FinMap nat_cmp ℕ) : Type 0 where
  pub apart : StandApart ids
  pub kept : places ≡ cond is_placed (places_in ids) map.empty
