-- Reading of the lines of a listing.
use Rattle.std.specs.Prelude.{ℕ, ◌^◌, ◌==◌, nat_le, if◌then◌else◌, List, [], ◌∷◌, ◌++◌, length, Option, Some, None, codes, ◌≡◌}
use Rattle.std.specs.Int.{w32, to_le_bytes}
use Rattle.gfx_model.specs.Events.{Event}
use Rattle.gfx_model.specs.Checks.{same_list}
use Rattle.gfx_model.specs.Spelling.{payload, block_bytes}
use Rattle.gfx_model.specs.Blocks.{Content, skipped, effect}
use Rattle.gfx_grammar.specs.Reading.{◌>>=◌}
use Rattle.gfx_grammar.specs.Framing.{Part, IsBlock}
use Rattle.gfx_text_grammar.specs.Words.{number_in}
use Rattle.gfx_text_grammar.specs.Reading.{read_raw}
use Rattle.gfx_text_grammar.specs.FieldReading.{without_front, named_value}
use Rattle.gfx_text_grammar.specs.Rows.{read_event}
use Rattle.gfx_text_grammar.specs.Styles.{numbered}
use Rattle.gfx_text_grammar.specs.Splits.{tokens_of}
use Rattle.gfx_grammar.specs.Reads.{AreBytes}
use Rattle.gfx_feature_model.specs.Listing.{block_text}
use Rattle.gfx_model.specs.Limits.{max_payload}

-- what the first gives, and otherwise the second
abbrev pub or_else : {X : Type 0} → Option X → Option X → Option X
or_else (Some x) y = Some x
or_else None y = y

-- the block of this type with this payload, where it isn't too large
abbrev pub block_of : (kind : ℕ) → List ℕ → Content → Option Part
block_of kind load content =
    if nat_le (length load) max_payload then Some (record { bytes = block_bytes kind load; content = content }) else None

-- the type of a skipped block by its name
abbrev pub skipped_kind : List ℕ → Option ℕ
skipped_kind name =
    if same_list name (codes "frame") then Some 1
    else if same_list name (codes "annotation") then Some 5
    else if same_list name (codes "message") then Some 3 else None

-- the payload of a skipped block with these bytes: those of a message follow its id
abbrev pub skipped_payload : ℕ → List ℕ → List ℕ
skipped_payload kind bytes = if kind == 3 then to_le_bytes w32 1 ++ bytes else bytes

-- NAME bytes=HEX
unfoldable pub read_skipped : List (List ℕ) → Option Part
read_skipped (name ∷ value ∷ []) =
    skipped_kind name >>= λ kind. named_value (codes "bytes") read_raw value >>= λ bytes.
    block_of kind (skipped_payload kind bytes) skipped
read_skipped _ = None

-- the block of this event under this thread
abbrev pub event_block : ℕ → ℕ → ℕ → Event → Option Part
event_block m kind thread e = block_of kind (payload m thread e) (effect thread e)

-- a marker has no thread
unfoldable pub read_marker : ℕ → List (List ℕ) → Option Part
read_marker m [] = None
read_marker m (name ∷ tokens) = read_event numbered m 2 name ([], tokens) >>= event_block m 2 0

-- vkCALL or a metadata
abbrev pub read_named : ℕ → ℕ → List ℕ → List (List ℕ) → Option Part
read_named m thread name tokens =
    or_else (without_front (codes "vk") name >>= λ call. read_event numbered m 4 call ([], tokens) >>= event_block m 4 thread)
    (read_event numbered m 3 name ([], tokens) >>= event_block m 3 thread)

-- thread=T NAME and fields
unfoldable pub read_threaded : ℕ → List (List ℕ) → Option Part
read_threaded m (thread ∷ name ∷ tokens) =
    without_front (codes "thread=") thread >>= number_in (2 ^ 64) >>= λ t. read_named m t name tokens
read_threaded m _ = None

-- the block that has this line in minor version m: its bytes, and what they say
unfoldable pub read_line : ℕ → List ℕ → Option Part
read_line m line =
    or_else (read_skipped (tokens_of line)) (or_else (read_marker m (tokens_of line)) (read_threaded m (tokens_of line)))

-- the part is a block with this line
pub record HasLine (m : ℕ) (p : Part) (line : List ℕ) : Type 0 where
  pub block : IsBlock m p.bytes p.content
  pub bytes : AreBytes p.bytes
  pub same : line ≡ block_text m p.bytes p.content
