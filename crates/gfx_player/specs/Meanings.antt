-- What a file means, computed: its frames up to the first bad block and their numbers, and how it ends.
use Rattle.std.specs.Prelude.{ℕ, ◌-◌, List, [], ◌∷◌, Option, Some, None, unwrap_or}
use Rattle.gfx_types.specs.declared.frame.Frame.{Frame}
use Rattle.gfx_model.specs.Events.{Event}
use Rattle.gfx_types.specs.declared.names.Fault.{Fault}
use Rattle.gfx_model.specs.Blocks.{End, Whole}
use Rattle.gfx_model.specs.Frames.{frames}
use Rattle.gfx_model.specs.History.{view}
use Rattle.gfx_model.specs.Meaning.{Judged, content_fault, content_onto, judge}
use Rattle.gfx_grammar.specs.Splitting.{Blocks, blocks_of}

-- blocks that are judged one after another
abbrev pub judged_of : Blocks → Judged
judged_of b = judge [] b.items b.end

-- the history of a file up to its first bad block
abbrev pub history_in : List ℕ → List Event
history_in bytes = (judged_of (blocks_of bytes)).history

-- the frames that a file shows before its first bad block
abbrev pub frames_in : List ℕ → List Frame
frames_in bytes = frames (history_in bytes)

-- the number of the first of these frames
abbrev pub first_of : List Frame → Option ℕ
first_of [] = None
first_of (f ∷ fs) = Some f.number

-- the number of the first frame of a history, that of the next frame where it shows none
abbrev pub first_in : List Event → ℕ
first_in h = unwrap_or (first_of (frames h)) (view h).next_frame

-- the number of the last frame of a history, one below the first where it shows none
abbrev pub last_in : List Event → ℕ
last_in h = (view h).next_frame - 1

-- a block before others, or none of them where it has a fault
abbrev pub unless_bad : Option Fault → Whole → List Whole → List Whole
unless_bad (Some f) w ws = []
unless_bad None w ws = w ∷ ws

-- the blocks before the first with a rule fault, after a history
unfoldable pub valid_from : List Event → List Whole → List Whole
valid_from h [] = []
valid_from h (w ∷ ws) = unless_bad (content_fault h w.content) w (valid_from (content_onto w.content h) ws)

-- the blocks of a file before its first bad one
abbrev pub valid_in : List ℕ → List Whole
valid_in bytes = valid_from [] (blocks_of bytes).items

-- how a file ends: cleanly, or at its first bad block
abbrev pub end_of : List ℕ → End
end_of bytes = (judged_of (blocks_of bytes)).end
