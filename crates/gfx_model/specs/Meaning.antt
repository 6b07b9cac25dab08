-- What a file means: its frames up to the first bad block, and how it ends.
use Rattle.std.specs.Prelude.{◌≡◌, ℕ, ◌==◌, nat_le, Bool, if◌then◌else◌, List, [], ◌∷◌, filter, Option, Some, None}
use Rattle.std.specs.List.{list_any}
use Rattle.gfx_types.specs.declared.names.Fault.{Fault}
use Rattle.gfx_types.specs.declared.frame.Frame.{Frame}
use Rattle.gfx_model.specs.Events.{Event}
use Rattle.gfx_model.specs.History.{fault}
use Rattle.gfx_model.specs.Frames.{frames}
use Rattle.gfx_model.specs.Blocks.{Content, Whole, End, AreBlocks}
use Rattle.gfx_model.specs.Blocks.Content.{skipped, effect}
use Rattle.gfx_model.specs.Blocks.End.{bad}

-- the history with what a block says put before it
abbrev pub content_onto : Content → List Event → List Event
content_onto skipped h = h
content_onto (effect thread event) h = event ∷ h

-- the events of blocks, the newest first, put before a history
abbrev pub events_onto : List Whole → List Event → List Event
events_onto [] h = h
events_onto (w ∷ ws) h = events_onto ws (content_onto w.content h)

-- the rule fault of what a block says
abbrev pub content_fault : List Event → Content → Option Fault
content_fault h skipped = None
content_fault h (effect thread event) = fault h event

-- the history of a valid prefix, and how it ends
pub record Judged : Type 0 where
  pub history : List Event
  pub end : End

-- a bad block ends the list after this history, and otherwise the rest is judged
abbrev pub judged : List Event → Whole → Option Fault → Judged → Judged
judged h w (Some f) rest = record { history = h; end = bad f w.number w.offset }
judged h w None rest = rest

-- the longest valid prefix of blocks after a history, and its end: the first block with a rule fault, or the end of the blocks
unfoldable pub judge : List Event → List Whole → End → Judged
judge h [] end = record { history = h; end = end }
judge h (w ∷ ws) end = judged h w (content_fault h w.content) (judge (content_onto w.content h) ws end)

-- the meaning of a file: the frames of the valid prefix, and the end
pub record Means (bytes : List ℕ) (shown : List Frame) (end : End) : Type 0 where
  pub blocks : List Whole
  pub blocks_end : End
  pub are : AreBlocks bytes blocks blocks_end
  pub shows : shown ≡ frames (judge [] blocks blocks_end).history
  pub ends : end ≡ (judge [] blocks blocks_end).end

-- how a range of frames ends: whole, or as the file does
pub data RangeEnd : Type 0 where
  whole : RangeEnd
  ended : End → RangeEnd

-- the frames with numbers up to `last`
abbrev pub frames_to : ℕ → List Frame → List Frame
frames_to last = filter (λ f. nat_le f.number last)

-- frame n is among them
abbrev pub has_frame : ℕ → List Frame → Bool
has_frame n = list_any (λ f. f.number == n)

-- the frames with numbers up to `last`, and the end: whole where frame `last` is among them
pub record MeansUpTo (last : ℕ) (bytes : List ℕ) (shown : List Frame) (end : RangeEnd) : Type 0 where
  pub all : List Frame
  pub file_end : End
  pub means : Means bytes all file_end
  pub shows : shown ≡ frames_to last all
  pub ends : end ≡ (if has_frame last all then whole else ended file_end)
