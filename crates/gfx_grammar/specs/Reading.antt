-- Reading of fields: what is at the start of the bytes, and the bytes behind it.
use Rattle.std.specs.Prelude.{ℕ, zero, suc, nat_lt, if◌then◌else◌, List, [], ◌∷◌, length, take, drop, Option, Some, None}
use Rattle.std.specs.Int.{Width, byte_len, from_le_bytes, w32, w64}
use Rattle.gfx_types.specs.declared.lists.Barrier.{Barrier}
use Rattle.gfx_types.specs.declared.lists.BufferRegion.{BufferRegion}
use Rattle.gfx_types.specs.declared.lists.ImageRegion.{ImageRegion}
use Rattle.gfx_types.specs.declared.lists.MixedRegion.{MixedRegion}
use Rattle.gfx_types.specs.declared.lists.Present.{Present}
use Rattle.gfx_types.specs.declared.lists.Submit.{Submit}

-- what f gives for the value, where there is one
infixl 10 ◌>>=◌
abbrev pub ◌>>=◌ : {A B : Type 0} → Option A → (A → Option B) → Option B
None >>= f = None
(Some x) >>= f = f x

-- a value and the bytes behind it, where the bytes begin with one
abbrev pub Reader : Type 0 → Type 0
Reader X = List ℕ → Option (X × List ℕ)

-- a number of this width, its lowest byte first
unfoldable pub read_number : Width → Reader ℕ
read_number w bytes =
    if nat_lt (length bytes) (byte_len w) then None else Some (from_le_bytes w (take (byte_len w) bytes), drop (byte_len w) bytes)

-- a number of four bytes
abbrev pub read_u32 : Reader ℕ
read_u32 bytes = read_number w32 bytes

-- a number of eight bytes
abbrev pub read_u64 : Reader ℕ
read_u64 bytes = read_number w64 bytes

-- the id of an object is a number of eight bytes
abbrev pub read_id : Reader ℕ
read_id bytes = read_number w64 bytes

-- so many bytes
abbrev pub read_bytes : ℕ → Reader (List ℕ)
read_bytes n bytes = if nat_lt (length bytes) n then None else Some (take n bytes, drop n bytes)

-- a length and so many bytes
unfoldable pub read_raw : Reader (List ℕ)
read_raw bytes = read_u64 bytes >>= λ n. read_bytes n.0 n.1

-- one after the other
unfoldable pub read_both : {A B : Type 0} → Reader A → Reader B → Reader (A × B)
read_both r s bytes = r bytes >>= λ x. s x.1 >>= λ y. Some ((x.0, y.0), y.1)

-- a value and the values behind it
infixr 12 ◌⊗◌
abbrev pub ◌⊗◌ : {A B : Type 0} → Reader A → Reader B → Reader (A × B)
r ⊗ s = read_both r s

-- the value that is built of what is read
unfoldable pub read_as : {X Y : Type 0} → (X → Y) → Reader X → Reader Y
read_as build r bytes = r bytes >>= λ x. Some (build x.0, x.1)

-- so many items
unfoldable pub read_items : {X : Type 0} → Reader X → ℕ → Reader (List X)
read_items r zero bytes = Some ([], bytes)
read_items r (suc n) bytes = r bytes >>= λ x. read_items r n x.1 >>= λ xs. Some (x.0 ∷ xs.0, xs.1)

-- a list: the number of its items, and the items
unfoldable pub read_list : {X : Type 0} → Reader X → Reader (List X)
read_list r bytes = read_u32 bytes >>= λ n. read_items r n.0 n.1

-- a list of ids
abbrev pub read_ids : Reader (List ℕ)
read_ids = read_list read_id

-- a list of numbers of four bytes
abbrev pub read_words : Reader (List ℕ)
read_words = read_list read_u32

-- ---- records

-- a barrier of its fields, in order
abbrev pub barrier_of : ℕ × (ℕ × ℕ) → Barrier
barrier_of f = record { image = f.0; before = f.1.0; after = f.1.1 }

-- image, before, after
abbrev pub read_barrier : Reader Barrier
read_barrier = read_as barrier_of (read_id ⊗ read_u32 ⊗ read_u32)

-- a region of a copy between buffers, of its fields in order
abbrev pub buffer_region_of : ℕ × (ℕ × ℕ) → BufferRegion
buffer_region_of f = record { from = f.0; to = f.1.0; size = f.1.1 }

-- from, to, size
abbrev pub read_buffer_region : Reader BufferRegion
read_buffer_region = read_as buffer_region_of (read_u64 ⊗ read_u64 ⊗ read_u64)

-- a region of a copy between images, of its fields in order
abbrev pub image_region_of : ℕ × (ℕ × (ℕ × (ℕ × (ℕ × ℕ)))) → ImageRegion
image_region_of f = record {
  from_x = f.0;
  from_y = f.1.0;
  to_x = f.1.1.0;
  to_y = f.1.1.1.0;
  width = f.1.1.1.1.0;
  height = f.1.1.1.1.1;
}

-- from_x, from_y, to_x, to_y, width, height
abbrev pub read_image_region : Reader ImageRegion
read_image_region = read_as image_region_of (read_u32 ⊗ read_u32 ⊗ read_u32 ⊗ read_u32 ⊗ read_u32 ⊗ read_u32)

-- a region of a copy between a buffer and an image, of its fields in order
abbrev pub mixed_region_of : ℕ × (ℕ × (ℕ × (ℕ × (ℕ × (ℕ × ℕ))))) → MixedRegion
mixed_region_of f = record {
  offset = f.0;
  row = f.1.0;
  rows = f.1.1.0;
  x = f.1.1.1.0;
  y = f.1.1.1.1.0;
  width = f.1.1.1.1.1.0;
  height = f.1.1.1.1.1.1;
}

-- offset, row, rows, x, y, width, height
abbrev pub read_mixed_region : Reader MixedRegion
read_mixed_region = read_as mixed_region_of (read_u64 ⊗ read_u32 ⊗ read_u32 ⊗ read_u32 ⊗ read_u32 ⊗ read_u32 ⊗ read_u32)

-- a submit of its three lists
abbrev pub submit_of : (List ℕ × List ℕ) × List ℕ → Submit
submit_of f = record { waits = f.0.0; cbs = f.0.1; signals = f.1 }

-- waits, command buffers, signals
abbrev pub read_submit : Reader Submit
read_submit = read_as submit_of ((read_ids ⊗ read_ids) ⊗ read_ids)

-- an image that is presented, of its fields in order
abbrev pub present_of : ℕ × ℕ → Present
present_of f = record { swapchain = f.0; index = f.1 }

-- swapchain, index
abbrev pub read_present : Reader Present
read_present = read_as present_of (read_id ⊗ read_u32)
