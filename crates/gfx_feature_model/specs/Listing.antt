-- The text form of a file: a line for the header, and one for each block.
use Rattle.std.specs.Prelude.{◌≡◌, ℕ, zero, suc, ◌+◌, ◌==◌, if◌then◌else◌, List, [], ◌∷◌, ◌++◌, map, flat_map, drop, codes, decimal}
use Rattle.std.specs.List.{join_with_byte}
use Rattle.gfx_model.specs.Events.{Event}
use Rattle.gfx_model.specs.Spelling.{type_of}
use Rattle.gfx_model.specs.Text.{line, hex_text}
use Rattle.gfx_model.specs.Fields.{named_fields}
use Rattle.gfx_script_model.specs.EventNames.{event_name}
use Rattle.gfx_script_model.specs.FieldText.{field_text}
use Rattle.gfx_model.specs.Blocks.{Content, Whole, AreBlocks, minor_of, option_count, u32_at, type_field, payload_field}
use Rattle.gfx_model.specs.Blocks.Content.{skipped, effect}
use Rattle.gfx_model.specs.Blocks.End.{clean}

-- n options from a place on
abbrev pub option_texts : List ℕ → ℕ → ℕ → List (List ℕ)
option_texts bytes at zero = []
option_texts bytes at (suc n) =
    (decimal (u32_at bytes at) ++ codes "=" ++ decimal (u32_at bytes (at + 4))) ∷ option_texts bytes (at + 8) n

-- the line of a header
abbrev pub header_text : List ℕ → List ℕ
header_text bytes =
    join_with_byte 32 (codes "gfxr" ∷ (codes "1000." ++ decimal (minor_of bytes)) ∷ option_texts bytes 16 (option_count bytes))

-- the name of a skipped block of this type, and where its bytes begin: those of a message follow its id
abbrev pub skipped_name : ℕ → List ℕ
skipped_name kind = if kind == 1 then codes "frame" else (if kind == 5 then codes "annotation" else codes "message")

-- the bytes of a skipped block: those of a message follow its id
abbrev pub skipped_bytes : ℕ → List ℕ → List ℕ
skipped_bytes kind payload = if kind == 3 then drop 4 payload else payload

-- the line of a skipped block
abbrev pub skipped_text : ℕ → List ℕ → List ℕ
skipped_text kind payload = skipped_name kind ++ codes " bytes=" ++ hex_text (skipped_bytes kind payload)

-- a marker has no thread, and a call's name begins with vk
abbrev pub event_words : ℕ → ℕ → Event → List (List ℕ)
event_words kind thread e =
    if kind == 2 then event_name e ∷ []
    else (codes "thread=" ++ decimal thread) ∷ (if kind == 4 then codes "vk" ++ event_name e else event_name e) ∷ []

-- the line of an effect
abbrev pub event_text : ℕ → ℕ → Event → List ℕ
event_text m thread e = join_with_byte 32 (event_words (type_of e) thread e ++ map (field_text decimal) (named_fields m e))

-- the line of a block
abbrev pub block_text : ℕ → List ℕ → Content → List ℕ
block_text m bytes skipped = skipped_text (type_field bytes) (payload_field bytes)
block_text m bytes (effect thread e) = event_text m thread e

-- the listing of a header and blocks
abbrev pub listing_of : List ℕ → List Whole → List ℕ
listing_of bytes blocks = line (header_text bytes) ++ flat_map (λ w. line (block_text (minor_of bytes) w.bytes w.content)) blocks

-- the listing of a file whose blocks end clean
pub record IsListing (bytes listing : List ℕ) : Type 0 where
  pub blocks : List Whole
  pub are : AreBlocks bytes blocks clean
  pub same : listing ≡ listing_of bytes blocks
