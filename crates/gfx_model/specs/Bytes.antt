-- The bytes of places after changes, the newest change first.
use Rattle.std.specs.Prelude.{ℕ, ◌+◌, ◌-◌, ◌/◌, ◌%◌, ◌^◌, ◌==◌, nat_le, nat_lt, Bool, true, false, ◌&&◌, if◌then◌else◌, List, [], ◌∷◌, map, length, slice_index}
use Rattle.std.specs.List.{range_with_len}
use Rattle.gfx_types.specs.declared.op.Place.{Place}
use Rattle.gfx_types.specs.declared.op.Place.TheVariants as place
use Rattle.gfx_model.specs.Steps.{Change}
use Rattle.gfx_model.specs.Steps.Change.{put, fill, copy, set_layout}

-- two places are one
abbrev pub same_place : Place → Place → Bool
same_place (place.Memory a) (place.Memory b) = a == b
same_place (place.Image a) (place.Image b) = a == b
same_place _ _ = false

-- byte i of a place is among these
abbrev pub covers_byte : Place → ℕ → ℕ → Place → ℕ → Bool
covers_byte to offset n at i = same_place to at && nat_le offset i && nat_lt i (offset + n)

-- byte k of a word that is repeated, least significant first
abbrev pub word_byte : ℕ → ℕ → ℕ
word_byte word k = word / 256 ^ (k % 4) % 256

-- byte i of a place: what the newest change that covers it gives, and 0 where there is none
unfoldable pub byte : List Change → Place → ℕ → ℕ
byte [] at i = 0
byte (put to offset bytes ∷ es) at i =
    if covers_byte to offset (length bytes) at i then slice_index bytes (i - offset) else byte es at i
byte (fill to offset n word ∷ es) at i =
    if covers_byte to offset n at i then word_byte word (i - offset) else byte es at i
byte (copy to to_offset source source_offset n ∷ es) at i =
    elim (covers_byte to to_offset n at i) [ true ↦ byte es source (source_offset + (i - to_offset)) | false ↦ byte es at i ]
byte (set_layout image layout ∷ es) at i = byte es at i

-- n bytes of a place, from an offset on
abbrev pub bytes_at : List Change → Place → ℕ → ℕ → List ℕ
bytes_at es at offset n = map (λ i. byte es at i) (range_with_len offset n)
