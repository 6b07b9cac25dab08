-- Reading of values: what is at the start of a text, and the text behind it.
use Rattle.std.specs.Prelude.{◌^◌, ℕ, zero, suc, ◌==◌, nat_lt, if◌then◌else◌, List, [], ◌∷◌, length, Option, Some, None}
use Rattle.gfx_types.specs.declared.lists.Barrier.{Barrier}
use Rattle.gfx_types.specs.declared.lists.BufferRegion.{BufferRegion}
use Rattle.gfx_types.specs.declared.lists.ImageRegion.{ImageRegion}
use Rattle.gfx_types.specs.declared.lists.MixedRegion.{MixedRegion}
use Rattle.gfx_types.specs.declared.lists.Present.{Present}
use Rattle.gfx_types.specs.declared.lists.Submit.{Submit}
use Rattle.gfx_grammar.specs.Reading.{◌>>=◌, Reader, barrier_of, buffer_region_of, image_region_of, mixed_region_of, present_of}
use Rattle.gfx_text_grammar.specs.Words.{word_of, after_word, number_in, raw_in}
use Rattle.gfx_script_model.specs.FieldText.{IdStyle}

-- how ids are read: the id of a word, and the same of fields whose id may be 0
pub record Style : Type 0 where
  pub ids : IdStyle
  pub read : List ℕ → Option ℕ
  pub read_maybe : List ℕ → Option ℕ

-- the value of the word at the start
unfoldable pub read_word : {X : Type 0} → (List ℕ → Option X) → Reader X
read_word value text = value (word_of text) >>= λ x. Some (x, after_word text)

-- the text behind this byte
abbrev pub behind : ℕ → List ℕ → Option (List ℕ)
behind c [] = None
behind c (d ∷ text) = if d == c then Some text else None

-- one, a comma, and the other
unfoldable pub read_comma : {A B : Type 0} → Reader A → Reader B → Reader (A × B)
read_comma r s text = r text >>= λ x. behind 44 x.1 >>= λ t. s t >>= λ y. Some ((x.0, y.0), y.1)

-- a value and the values behind it
infixr 12 ◌⊗◌
abbrev pub ◌⊗◌ : {A B : Type 0} → Reader A → Reader B → Reader (A × B)
r ⊗ s = read_comma r s

-- the value between a byte before it and one behind
unfoldable pub read_between : {X : Type 0} → ℕ → ℕ → Reader X → Reader X
read_between front back r text = behind front text >>= λ t. r t >>= λ x. behind back x.1 >>= λ u. Some (x.0, u)

-- the value that is built of what is read
unfoldable pub read_as : {X Y : Type 0} → (X → Y) → Reader X → Reader Y
read_as build r text = r text >>= λ x. Some (build x.0, x.1)

-- a record: its values in parentheses
abbrev pub read_record : {X Y : Type 0} → (X → Y) → Reader X → Reader Y
read_record build r = read_between 40 41 (read_as build r)

-- a closing bracket, or a comma and more items
abbrev pub read_more : {X : Type 0} → Reader (List X) → Reader (List X)
read_more more [] = None
read_more more (c ∷ text) = if c == 93 then Some ([], text) else if c == 44 then more text else None

-- at most so many items with a comma between each two, and a closing bracket
unfoldable pub read_items : {X : Type 0} → Reader X → ℕ → Reader (List X)
read_items r zero text = None
read_items r (suc turns) text = r text >>= λ x. read_more (read_items r turns) x.1 >>= λ xs. Some (x.0 ∷ xs.0, xs.1)

-- no item, or items; each takes a byte or more with its comma or bracket
abbrev pub read_list_end : {X : Type 0} → Reader X → Reader (List X)
read_list_end r [] = None
read_list_end r (c ∷ text) = if c == 93 then Some ([], text) else read_items r (suc (length text)) (c ∷ text)

-- as many items as a list may have
abbrev pub if_few : {X : Type 0} → List X × List ℕ → Option (List X × List ℕ)
if_few xs = if nat_lt (length xs.0) (2 ^ 32) then Some xs else None

-- a list: its items in brackets
unfoldable pub read_list : {X : Type 0} → Reader X → Reader (List X)
read_list r text = behind 91 text >>= λ t. read_list_end r t >>= if_few

-- ---- values

-- a number of four bytes
abbrev pub read_u32 : Reader ℕ
read_u32 = read_word (number_in (2 ^ 32))

-- a number of eight bytes
abbrev pub read_u64 : Reader ℕ
read_u64 = read_word (number_in (2 ^ 64))

-- bytes
abbrev pub read_raw : Reader (List ℕ)
read_raw = read_word raw_in

-- an id
abbrev pub read_id : Style → Reader ℕ
read_id s = read_word s.read

-- an id that may be 0
abbrev pub read_maybe : Style → Reader ℕ
read_maybe s = read_word s.read_maybe

-- a list of ids
abbrev pub read_ids : Style → Reader (List ℕ)
read_ids s = read_list (read_id s)

-- a list of numbers
abbrev pub read_words : Reader (List ℕ)
read_words = read_list read_u32

-- ---- records

-- image, before, after
abbrev pub read_barrier : Style → Reader Barrier
read_barrier s = read_record barrier_of (read_id s ⊗ read_u32 ⊗ read_u32)

-- from, to, size
abbrev pub read_buffer_region : Style → Reader BufferRegion
read_buffer_region s = read_record buffer_region_of (read_u64 ⊗ read_u64 ⊗ read_u64)

-- from_x, from_y, to_x, to_y, width, height
abbrev pub read_image_region : Style → Reader ImageRegion
read_image_region s = read_record image_region_of (read_u32 ⊗ read_u32 ⊗ read_u32 ⊗ read_u32 ⊗ read_u32 ⊗ read_u32)

-- offset, row, rows, x, y, width, height
abbrev pub read_mixed_region : Style → Reader MixedRegion
read_mixed_region s =
    read_record mixed_region_of (read_u64 ⊗ read_u32 ⊗ read_u32 ⊗ read_u32 ⊗ read_u32 ⊗ read_u32 ⊗ read_u32)

-- swapchain, index
abbrev pub read_present : Style → Reader Present
read_present s = read_record present_of (read_id s ⊗ read_u32)

-- a submit of its three lists
abbrev pub submit_from : List ℕ × (List ℕ × List ℕ) → Submit
submit_from f = record { waits = f.0; cbs = f.1.0; signals = f.1.1 }

-- waits, command buffers, signals
abbrev pub read_submit : Style → Reader Submit
read_submit s = read_record submit_from (read_ids s ⊗ read_ids s ⊗ read_ids s)
