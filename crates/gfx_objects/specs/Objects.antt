-- What is kept of all objects, and what it answers to the questions of a capture.
use Rattle.std.specs.Prelude.{◌≡◌, ℕ, ◌+◌, ◌<◌, ◌≤◌, ◌==◌, ◌&&◌, ◌||◌, Bool, true, false, Option, Some, None, is_some, option_map, option_and_then, if◌then◌else◌, refl}
use Rattle.std.specs.Option.{option_map_or}
use Rattle.std.specs.Ordering.{nat_cmp}
use Rattle.std.specs.Coded.{Coded, code_by, coded×, coded_ℕ}
use base.Stored.{coded_unit}
use Rattle.std.specs.FinMap as map
use Rattle.std.specs.FinMap.{FinMap}
use Rattle.gfx_table.specs.Slots.{Slots, slots_code}
use Rattle.gfx_table.specs.IdSet.{holds}
use Rattle.gfx_table.specs.Values.{with_rows}
use Rattle.gfx_table.specs.Rows.{total}
use Rattle.gfx_model.specs.Steps.{Detail, kind_of}
use Rattle.gfx_model.specs.Questions.{Binding, is_owned, new_buffer, passes}
use Rattle.gfx_model.specs.Views.{View, detail_size, detail_bytes}
use Rattle.gfx_model.specs.Limits.{max_live_bytes, max_live_objects}
use Rattle.gfx_objects.specs.declared.object.Object.{Object}
use Rattle.gfx_objects.specs.Object.{made, detail_of, bound_of, mapped_of, layout_of, is_within, is_owned_by, owner_of, memory_of, surface_of}
use Rattle.gfx_objects.specs.Children.{is_at}

-- the rows, the ids of what ended, the sets of what is owned and the reserved room
pub record Kept : Type 0 where
  -- the live objects by their ids
  pub rows : FinMap nat_cmp Object
  -- the set of the ids of all objects that ended
  pub ended : Slots ℕ
  -- under each id the set of what it owns
  pub owned : FinMap nat_cmp (Slots (Unit {0}))
  -- how many creations there is room for
  pub spare : ℕ

-- how the logic stores it, as its fields in a row
abbrev pub kept_code : Coded Object → Coded Kept
kept_code code =
    code_by (FinMap nat_cmp Object × (Slots ℕ × (FinMap nat_cmp (Slots (Unit {0})) × ℕ)))
    (coded× (map.code coded_ℕ code) (coded× (slots_code coded_ℕ) (coded× (map.code coded_ℕ (slots_code coded_unit)) coded_ℕ)))
    (λ k. (k.rows, (k.ended, (k.owned, k.spare)))) (λ p. record { rows = p.0; ended = p.1.0; owned = p.1.1.0; spare = p.1.1.1 }) (λ _. refl)

-- an id was used: its object is live, or it ended
abbrev pub was_used : Kept → ℕ → Bool
was_used k id = is_some (map.get k.rows id) || holds k.ended id

-- What the rows answer. Commands, signals, acquired images and frames are kept elsewhere: they are plain here.
unfoldable pub answers : Kept → View
answers k = record {
  live = λ x. option_map made (map.get k.rows x);
  ids = map.keys k.rows;
  used = was_used k;
  bound = λ x. option_and_then (λ o. bound_of o.detail) (map.get k.rows x);
  mapped = λ x. option_and_then (λ o. mapped_of o.detail) (map.get k.rows x);
  layout = λ x. option_map_or (λ o. layout_of o.detail) (map.get k.rows x) 0;
  buffer = λ x. new_buffer;
  signalled = λ x. false;
  acquired = λ x index. false;
  next_frame = 1;
  is_empty = false;
  section = None;
}

-- the object of the second id is live, and the first owns it
abbrev pub owns : View → ℕ → ℕ → Bool
owns v owner id = passes (λ o. is_owned o.detail && owner == o.parent) (v.live id)

-- a row and its id
pub record IsRow (id : ℕ) (o : Object) : Type 0 where
  pub same_id : o.id ≡ id
  pub not_zero : 0 < id
  pub same_kind : o.kind ≡ kind_of (detail_of o.detail)
  pub within : is_within (detail_of o.detail) ≡ true

-- what is bound so was bound to a memory that was live, and ends inside it as long as it is
pub record RestsIn (k : Kept) (d : Detail) (b : Binding) : Type 0 where
  pub used : was_used k b.memory ≡ true
  pub inside : (m : Object) → map.get k.rows b.memory ≡ Some m → b.offset + detail_size d ≤ detail_size (detail_of m.detail)

-- What always holds: each row has its own id and kind, and ends inside the memory to which it is bound, and the limits on
-- objects and bytes are kept.
pub record IsSound (k : Kept) : Type 0 where
  pub row : (id : ℕ) (o : Object) → map.get k.rows id ≡ Some o → IsRow id o
  pub bound : (id : ℕ) (o : Object) (b : Binding) → map.get k.rows id ≡ Some o → bound_of o.detail ≡ Some b → RestsIn k (detail_of o.detail) b
  pub few : map.len k.rows ≤ max_live_objects
  pub small : total (λ id o. detail_bytes (detail_of o.detail)) k.rows ≤ max_live_bytes

-- the mark of a row that an object owns
abbrev pub owner_mark : ℕ → ℕ → Object → Option (Unit {0})
owner_mark owner id o = if is_owned_by owner o then Some tt else None

-- the ids of the rows that an object owns
abbrev pub of_owner : ℕ → FinMap nat_cmp Object → FinMap nat_cmp (Unit {0})
of_owner owner = with_rows (owner_mark owner)

-- how many rows have this parent
abbrev pub children_in : FinMap nat_cmp Object → ℕ → ℕ
children_in rows parent = total (λ id o. if o.parent == parent then 1 else 0) rows

-- what the rows count against the limit on bytes
abbrev pub bytes_in : FinMap nat_cmp Object → ℕ
bytes_in rows = total (λ id o. detail_bytes (detail_of o.detail)) rows

-- the counts of children, the bytes and the number are those of the rows
pub record IsIndexed (rows : FinMap nat_cmp Object) (children : ℕ → ℕ) (bytes count : ℕ) : Type 0 where
  pub by_parent : (parent : ℕ) → children parent ≡ children_in rows parent
  pub in_all : bytes ≡ bytes_in rows
  pub in_number : count ≡ map.len rows

-- under each group stand the ids of the rows that are of it
abbrev pub AreGrouped : (Object → Option ℕ) → FinMap nat_cmp Object → (ℕ → ℕ → Bool) → Type 0
AreGrouped group_of rows members = (group id : ℕ) → members group id ≡ is_at group (option_and_then group_of (map.get rows id))

-- how many rows are of this group
abbrev pub count_in : (Object → Option ℕ) → FinMap nat_cmp Object → ℕ → ℕ
count_in group_of rows group = total (λ id o. if is_at group (group_of o) then 1 else 0) rows

-- what each object owns, what rests on each memory, and the numbers of swapchains on surfaces are those of the rows
pub record IsGrouped (rows : FinMap nat_cmp Object) (owned resting : ℕ → ℕ → Bool) (swapchains : ℕ → ℕ) : Type 0 where
  pub by_owner : AreGrouped owner_of rows owned
  pub by_memory : AreGrouped (λ o. memory_of o.detail) rows resting
  pub by_surface : (surface : ℕ) → swapchains surface ≡ count_in (λ o. surface_of (detail_of o.detail)) rows surface
