-- The parts of a file by themselves: the start of its header, a block's twelve bytes of size and type, and a whole block.
use Rattle.std.specs.Prelude.{◌≡◌, ℕ, ◌+◌, ◌<◌, ◌≤◌, ◌==◌, nat_le, Bool, true, false, not, ◌&&◌, ◌||◌, if◌then◌else◌, List, [], ◌∷◌, ◌++◌, length, take, drop, map, flat_map, Option, Some, None}
use Rattle.gfx_types.specs.declared.names.Fault.{Fault}
use Rattle.gfx_types.specs.declared.names.Fault.TheVariants.{TooManyBlocks}
use Rattle.gfx_model.specs.Events.{Event}
use Rattle.gfx_model.specs.Events.Event.{BeginSection, EndSection}
use Rattle.gfx_model.specs.Limits.{max_payload, max_side_blocks}
use Rattle.gfx_model.specs.Spelling.{HasSpelling, type_of, payload, encoding, header}
unfoldable pub use Rattle.gfx_model.specs.Blocks.{start_fault, head_fault}
use Rattle.gfx_model.specs.Blocks.{IsThread, u32_at, refuse, options_fault, option_count, header_length, Position, size_field, type_field, payload_field, Content, skipped, effect, Whole, End, side_count, next_position}
use Rattle.gfx_grammar.specs.Rows.{read_content}
use Rattle.gfx_grammar.specs.Splitting.{Stops, front, block_at, Blocks}

-- ---- the header

-- the bytes are a header in order, and nothing else
pub record IsHeader (bytes : List ℕ) : Type 0 where
  pub there : 16 ≤ length bytes
  pub start : start_fault bytes ≡ None
  pub long : length bytes ≡ header_length bytes
  pub options : options_fault bytes 16 0 (option_count bytes) ≡ None

-- ---- a block's head

-- the twelve bytes say this type and this size, and break no step
pub record IsHead (kind size : ℕ) (head : List ℕ) : Type 0 where
  pub there : length head ≡ 12
  pub good : head_fault head ≡ None
  pub kind_is : type_field head ≡ kind
  pub size_is : size_field head ≡ size

-- a block of this type and size is a marker of this kind, 1 begins and 2 ends, where its payload begins so
abbrev pub marks : (mark kind size : ℕ) → List ℕ → Bool
marks mark kind size payload = kind == 2 && size == 12 && nat_le 12 (length payload) && u32_at payload 0 == mark

-- the blocks on the side of the section where the block here stands, which begins the section or does not
abbrev pub side : Position → Bool → ℕ
side at begins = if at.in_section || begins then at.inside else at.outside

-- each side has room for so many blocks
abbrev pub count_fault : Position → Bool → Option Fault
count_fault at begins = refuse (nat_le max_side_blocks (side at begins)) TooManyBlocks None

-- the position behind a block with a payload of this size, which begins or ends the section or does neither
abbrev pub past : Position → (size : ℕ) (begins ends : Bool) → Position
past at size begins ends = record {
  number = at.number + 1;
  offset = at.offset + 12 + size;
  in_section = (at.in_section || begins) && not ends;
  inside = if at.in_section || begins then at.inside + 1 else at.inside;
  outside = if at.in_section || begins then at.outside else at.outside + 1;
}

-- the event begins the section
abbrev pub event_begins : Event → Bool
event_begins (BeginSection frame) = true
event_begins _ = false

-- the event ends the section
abbrev pub event_ends : Event → Bool
event_ends (EndSection frame) = true
event_ends _ = false

-- what a block says begins the section
abbrev pub says_begin : Content → Bool
says_begin skipped = false
says_begin (effect thread event) = event_begins event

-- what a block says ends the section
abbrev pub says_end : Content → Bool
says_end skipped = false
says_end (effect thread event) = event_ends event

-- ---- a whole block

-- a whole block is at the start
pub record IsWhole (m : ℕ) (at : Position) (bytes : List ℕ) (w : Whole) : Type 0 where
  pub there : 12 ≤ length bytes
  pub head : head_fault bytes ≡ None
  pub counted : side_count at bytes < max_side_blocks
  pub payload_there : 12 + size_field bytes ≤ length bytes
  pub payload : read_content m (type_field bytes) (payload_field bytes) ≡ Some w.content
  pub same : w ≡ block_at at (take (12 + size_field bytes) bytes) w.content

-- the bytes are one block, wherever it stands, which says this
pub record IsBlock (m : ℕ) (bytes : List ℕ) (content : Content) : Type 0 where
  pub long : length bytes ≡ 12 + size_field bytes
  pub head : head_fault bytes ≡ None
  pub payload : read_content m (type_field bytes) (payload_field bytes) ≡ Some content

-- the block that was found is one by itself, and the bytes go on behind it
pub record IsFound (m : ℕ) (at : Position) (bytes : List ℕ) (w : Whole) : Type 0 where
  pub block : IsBlock m w.bytes w.content
  pub counted : side_count at w.bytes < max_side_blocks
  pub parts : bytes ≡ w.bytes ++ drop (length w.bytes) bytes
  pub here : w ≡ block_at at w.bytes w.content
  pub long : length w.bytes ≡ 12 + size_field bytes
  pub next : next_position at bytes ≡ next_position at w.bytes

-- a block that is nowhere yet
pub record Part : Type 0 where
  pub bytes : List ℕ
  pub content : Content

-- the parts one after the other, the first of them here
abbrev pub placed : Position → List Part → List Whole
placed at [] = []
placed at (p ∷ ps) = block_at at p.bytes p.content ∷ placed (next_position at p.bytes) ps

-- the position behind them
abbrev pub place_after : Position → List Part → Position
place_after at [] = at
place_after at (p ∷ ps) = place_after (next_position at p.bytes) ps

-- no side gets too many blocks by them
abbrev pub HaveRoom : Position → List Part → Type 0
HaveRoom at [] = Unit {0}
HaveRoom at (p ∷ ps) = (side_count at p.bytes < max_side_blocks) × HaveRoom (next_position at p.bytes) ps

-- whole blocks, and behind them the others with their end
abbrev pub with_items : List Whole → Blocks → Blocks
with_items ws rest = record { items = ws ++ rest.items; end = rest.end }

-- the bytes are these whole blocks one after the other, the first of them here, and then no further one: they end so
abbrev pub Splits : ℕ → Position → List ℕ → List Whole → End → Type 0
Splits m at bytes [] end = front m at bytes ≡ Stops end
Splits m at bytes (w ∷ ws) end =
    (rest : List ℕ) × (bytes ≡ w.bytes ++ rest) × (w ≡ block_at at w.bytes w.content)
    × IsBlock m w.bytes w.content × (side_count at w.bytes < max_side_blocks) × Splits m (next_position at w.bytes) rest ws end

-- ---- what is written

-- the event, under a thread, has a block in minor version m
pub record CanBeWritten (m thread : ℕ) (event : Event) : Type 0 where
  pub fits : HasSpelling m event
  pub thread_fits : IsThread (type_of event) thread
  pub small : length (payload m thread event) ≤ max_payload

-- an event and its thread, 0 for a marker
pub record Written : Type 0 where
  pub thread : ℕ
  pub event : Event

-- the block that is written of it
abbrev pub written_part : ℕ → Written → Part
written_part m w = record { bytes = encoding m w.thread w.event; content = effect w.thread w.event }

-- what is written of events, one after the other
abbrev pub written_by : ℕ → List Written → List ℕ
written_by m ws = header m ++ flat_map (λ w. encoding m w.thread w.event) ws

-- a block that is copied
abbrev pub part_of : Whole → Part
part_of w = record { bytes = w.bytes; content = w.content }

-- an event under thread 0, as a section has it
abbrev pub made_part : ℕ → Event → Part
made_part m e = record { bytes = encoding m 0 e; content = effect 0 e }

-- the parts of a file: a section that is made, and blocks that are copied
abbrev pub file_parts : ℕ → List Event → List Whole → List Part
file_parts m made blocks = map (made_part m) made ++ map part_of blocks

-- not a marker
abbrev pub IsUnmarked : Event → Type 0
IsUnmarked e = (event_begins e ≡ false) × (event_ends e ≡ false)
