-- The trimmed file of a range of frames.
use Rattle.std.specs.Prelude.{◌≡◌, ℕ, ◌+◌, ◌==◌, Bool, true, false, not, ◌&&◌, ◌||◌, if◌then◌else◌, List, [], ◌∷◌, ◌++◌, flat_map}
use Rattle.gfx_model.specs.Events.{Event}
use Rattle.gfx_model.specs.Events.Event.{QueuePresentKHR, BeginSection, EndSection}
use Rattle.gfx_model.specs.Spelling.{encoding, header}
use Rattle.gfx_model.specs.History.{view}
use Rattle.gfx_model.specs.Blocks.{Content, Whole, End, AreBlocks, minor_of}
use Rattle.gfx_model.specs.Blocks.Content.{skipped, effect}
use Rattle.gfx_model.specs.Meaning.{content_onto, events_onto}
use Rattle.gfx_model.specs.Section.{section}

-- a list in two parts
pub record Cut : Type 0 where
  pub front : List Whole
  pub rest : List Whole

-- frame `first` begins right after this event: the present of the frame before it, or the end marker with its number
abbrev pub ends_before : ℕ → List Event → Event → Bool
ends_before first h (QueuePresentKHR queue waits presents) = (view h).next_frame + 1 == first
ends_before first h (EndSection frame) = frame == first
ends_before first h _ = false

-- a block after which frame `first` begins
abbrev pub cuts_before : ℕ → List Event → Content → Bool
cuts_before first h skipped = false
cuts_before first h (effect thread event) = ends_before first h event

-- one more block at the start
abbrev pub with_front : Whole → Cut → Cut
with_front w c = record { front = w ∷ c.front; rest = c.rest }

-- the blocks up to where frame `first` begins, after a history
unfoldable pub cut_before : ℕ → List Event → List Whole → Cut
cut_before first h [] = record { front = []; rest = [] }
cut_before first h (w ∷ ws) =
    if cuts_before first h w.content then record { front = w ∷ []; rest = ws }
    else with_front w (cut_before first (content_onto w.content h) ws)

-- frame `first` begins behind one of these blocks
abbrev pub reaches : ℕ → List Event → List Whole → Bool
reaches first h [] = false
reaches first h (w ∷ ws) = cuts_before first h w.content || reaches first (content_onto w.content h) ws

-- a begin marker
abbrev pub begins_section : Event → Bool
begins_section (BeginSection frame) = true
begins_section _ = false

-- the first effect of these blocks begins a section
abbrev pub content_begins : Content → Bool → Bool
content_begins skipped later = later
content_begins (effect thread event) later = begins_section event

-- the file has a section: its first effect begins one
abbrev pub has_section : List Whole → Bool
has_section [] = false
has_section (w ∷ ws) = content_begins w.content (has_section ws)

-- frame `first` begins right after the header: frame 1 of a file without a section
abbrev pub is_first : ℕ → List Whole → Bool
is_first first blocks = first == 1 && not (has_section blocks)

-- the blocks up to where frame `first` begins, and those behind
abbrev pub boundary : ℕ → List Whole → Cut
boundary first blocks = if is_first first blocks then record { front = []; rest = blocks } else cut_before first [] blocks

-- frame `first` begins in these blocks
abbrev pub has_boundary : ℕ → List Whole → Bool
has_boundary first blocks = is_first first blocks || reaches first [] blocks

-- the history up to a cut
abbrev pub history_to : Cut → List Event
history_to c = events_onto c.front []

-- the blocks from a cut through the present of frame `last`
abbrev pub range_from : ℕ → Cut → List Whole
range_from last c = (cut_before (last + 1) (history_to c) c.rest).front

-- a header, a section under thread 0, and blocks that are copied
abbrev pub file_of : ℕ → List Event → List Whole → List ℕ
file_of m made blocks = header m ++ flat_map (encoding m 0) made ++ flat_map (λ w. w.bytes) blocks

-- the file of a range: the section for the history up to the cut, and the blocks of the range
abbrev pub trimmed_by : ℕ → ℕ → ℕ → Cut → List ℕ
trimmed_by m first last c = file_of m (section (history_to c) first) (range_from last c)

-- the trimmed file of frames first to last
pub record IsTrimmed (first last : ℕ) (bytes out : List ℕ) : Type 0 where
  pub blocks : List Whole
  pub end : End
  pub are : AreBlocks bytes blocks end
  pub same : out ≡ trimmed_by (minor_of bytes) first last (boundary first blocks)
