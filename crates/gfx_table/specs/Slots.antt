-- What a table is seen as, and its sorted entries.
use Rattle.std.specs.Prelude.{◌≡◌, ℕ, suc, ◌<◌, ◌≤◌, List, [], ◌∷◌, length, T, if◌then◌else◌, nat_lt, slice_index_or, Option, Some, None, find, refl}
use Rattle.std.specs.Ordering.{nat_cmp}
use Rattle.std.specs.Coded.{Coded, code_by, coded×, coded_ℕ}
use Rattle.std.specs.FinMap as map
use Rattle.std.specs.FinMap.{FinMap, is_sorted}

-- rows under ids, and room for more
pub record Slots (X : Type 0) : Type 0 where
  -- the rows by their ids
  pub map : FinMap nat_cmp X
  -- how many new ids there is room for
  pub spare : ℕ

-- how the logic stores it, as its fields in a row
abbrev pub slots_code : {X : Type 0} → Coded X → Coded (Slots X)
slots_code {X} code =
    code_by (FinMap nat_cmp X × ℕ) (coded× (map.code coded_ℕ code) coded_ℕ) (λ s. (s.map, s.spare)) (λ p. record { map = p.0; spare = p.1 }) (λ _. refl)

-- the least id above the given one
abbrev pub least_above : {X : Type 0} → FinMap nat_cmp X → ℕ → Option ℕ
least_above m after = find (λ id. nat_lt after id) (map.keys m)

-- the ids strictly rise
abbrev pub IsRising : {X : Type 0} → List (ℕ × X) → Type 0
IsRising es = T (is_sorted nat_cmp es)

-- the rows of rising entries by their ids
abbrev pub map_of : {X : Type 0} → List (ℕ × X) → FinMap nat_cmp X
map_of es = map.from_sorted es

-- how many entries at the start have a smaller id
abbrev pub place : {X : Type 0} → ℕ → List (ℕ × X) → ℕ
place id [] = 0
place id (e ∷ es) = if nat_lt e.0 id then suc (place id es) else 0

-- the id has an entry, which is at the place i
pub record IsFoundAt {X : Type 0} (es : List (ℕ × X)) (id i : ℕ) : Type 0 where
  pub in_range : i < length es
  pub is_place : place id es ≡ i
  pub value : (d : ℕ × X) → map.find nat_cmp id es ≡ Some (slice_index_or es i d).1
  pub same_id : (d : ℕ × X) → (slice_index_or es i d).0 ≡ id

-- the id has no entry, and one would go to the place i
pub record IsMissingAt {X : Type 0} (es : List (ℕ × X)) (id i : ℕ) : Type 0 where
  pub in_range : i ≤ length es
  pub is_place : place id es ≡ i
  pub missing : map.find nat_cmp id es ≡ None

-- the ids up to this one end at the place i
pub record IsEndAt {X : Type 0} (es : List (ℕ × X)) (id i : ℕ) : Type 0 where
  pub in_range : i ≤ length es
  pub up_to : (j : ℕ) (d : ℕ × X) → j < i → (slice_index_or es j d).0 ≤ id
  pub above : (j : ℕ) (d : ℕ × X) → i ≤ j → j < length es → id < (slice_index_or es j d).0
