-- Rows in groups of slots to which their ids lead.
use Rattle.std.specs.Prelude.{◌≡◌, ℕ, ◌+◌, ◌%◌, ◌<◌, ◌≤◌, ◌==◌, min, Bool, false, bit_and, List, [], ◌∷◌, length, Option, Some, None, slice_index_or, if◌then◌else◌}
use Rattle.std.specs.Ordering.{nat_cmp}
use Rattle.std.specs.FinMap as map
use Rattle.std.specs.FinMap.{FinMap}
use Rattle.gfx_table.specs.Joined.{IsApart}

-- what is in a slot, none past the last
abbrev pub slot_at : {X : Type 0} → List (Option (ℕ × X)) → ℕ → Option (ℕ × X)
slot_at slots i = slice_index_or slots i None

-- the row of what is in a slot, where it is that of the id
abbrev pub row_in : {X : Type 0} → Option (ℕ × X) → ℕ → Option X
row_in None id = None
row_in (Some e) id = if e.0 == id then Some e.1 else None

-- what is in the slots, in order
abbrev pub filled : {X : Type 0} → List (Option (ℕ × X)) → List (ℕ × X)
filled [] = []
filled (None ∷ slots) = filled slots
filled (Some e ∷ slots) = e ∷ filled slots

-- the slot is one of the eight from the first on
pub record IsInGroup (first slot : ℕ) : Type 0 where
  pub from : first ≤ slot
  pub below : slot < first + 8

-- the slot of an id in its group, whose number is a usize
abbrev pub own_slot : ℕ → ℕ → ℕ
own_slot first id = min (first + id % 8) 18446744073709551615

-- an id is in its own slot, if it is in one
abbrev pub StandsOwn : {X : Type 0} → List (Option (ℕ × X)) → ℕ → ℕ → Type 0
StandsOwn {X} slots first id = (i : ℕ) (e : ℕ × X) → slot_at slots i ≡ Some e → e.0 ≡ id → i ≡ own_slot first id

-- no row of the id is in the group
abbrev pub IsNowhere : {X : Type 0} → List (Option (ℕ × X)) → ℕ → ℕ → Type 0
IsNowhere slots first id = (slot : ℕ) → IsInGroup first slot → row_in (slot_at slots slot) id ≡ None

-- a row of the id may be put into the slot: it is there, or the slot is free and no row of it is in the group or in the rest
pub record CanTake {X : Type 0} (slots : List (Option (ℕ × X))) (rest : FinMap nat_cmp X) (first id slot : ℕ) : Type 0 where
  pub group : IsInGroup first slot
  pub inside : slot < length slots
  pub own : (e : ℕ × X) → slot_at slots slot ≡ Some e → e.0 ≡ id
  pub free : slot_at slots slot ≡ None → IsNowhere slots first id
  pub missing : slot_at slots slot ≡ None → map.get rest id ≡ None

-- each id is in one slot
abbrev pub StandOnce : {X : Type 0} → List (Option (ℕ × X)) → Type 0
StandOnce {X} slots = (i j : ℕ) (e f : ℕ × X) → slot_at slots i ≡ Some e → slot_at slots j ≡ Some f → e.0 ≡ f.0 → i ≡ j

-- each id is in its own slot
abbrev pub AreOwn : {X : Type 0} → ℕ → List (Option (ℕ × X)) → Type 0
AreOwn {X} mask slots = (i : ℕ) (e : ℕ × X) → slot_at slots i ≡ Some e → i ≡ own_slot (bit_and e.0 mask) e.0

-- the bits of each id under the mask tell where its group begins, and it is in one slot
pub record ArePlaced {X : Type 0} (mask : ℕ) (slots : List (Option (ℕ × X))) : Type 0 where
  pub group : (i : ℕ) (e : ℕ × X) → slot_at slots i ≡ Some e → IsInGroup (bit_and e.0 mask) i
  pub once : StandOnce slots

-- each entry is in its group, in its own slot where none is displaced, and no id is in a slot and in the rest
pub record IsSlotted {X : Type 0} (mask : ℕ) (displaced : Bool) (slots : List (Option (ℕ × X))) (rest : FinMap nat_cmp X) : Type 0 where
  pub placed : ArePlaced mask slots
  pub own : displaced ≡ false → AreOwn mask slots
  pub apart : IsApart (filled slots) rest
