-- The words of each command.
use Rattle.std.specs.Prelude.{◌≤◌, ℕ, Bool, if◌then◌else◌, List, [], ◌∷◌, ◌++◌, Option, Some, None, codes, decimal, ⊤}
use Rattle.gfx_words.specs.declared.range.FrameRange.{FrameRange}
use Rattle.gfx_words.specs.declared.command.Command.{Command}
use Rattle.gfx_words.specs.declared.recording.Recording.{Recording}
use Rattle.gfx_words.specs.declared.command.Command.TheVariants.{Info, Replay, Trim, Lean, Upgrade, List as Lists, Unlist as Unlists, Make, Help, Version}
use Rattle.gfx_words.specs.Words.{range_text, FitsRange}

-- the words that ask for a range
abbrev pub frames_words : Option FrameRange → List (List ℕ)
frames_words None = []
frames_words (Some r) = codes "--frames" ∷ range_text r ∷ []

-- the words that ask for pixels
abbrev pub pixels_words : Bool → List (List ℕ)
pixels_words pixels = if pixels then codes "--pixels" ∷ [] else []

-- the words of a command
abbrev pub words_of : Command → List (List ℕ)
words_of Info = codes "info" ∷ []
words_of (Replay pixels frames) = codes "replay" ∷ pixels_words pixels ++ frames_words frames
words_of (Trim r) = codes "trim" ∷ range_text r ∷ []
words_of (Lean r) = codes "lean" ∷ range_text r ∷ []
words_of Upgrade = codes "upgrade" ∷ []
words_of Lists = codes "list" ∷ []
words_of Unlists = codes "unlist" ∷ []
words_of (Make frames) = codes "make" ∷ decimal frames ∷ []
words_of Help = codes "--help" ∷ []
words_of Version = codes "--version" ∷ []

-- the words that ask for gathered writes
abbrev pub gather_words : Bool → List (List ℕ)
gather_words gathers = if gathers then codes "--gather" ∷ [] else []

-- the words of a recording
abbrev pub recording_words : Recording → List (List ℕ)
recording_words r = codes "capture" ∷ gather_words r.gathers ++ frames_words r.frames

-- a range that may be asked for
abbrev pub FitsFrames : Option FrameRange → Type 0
FitsFrames None = ⊤
FitsFrames (Some r) = FitsRange r

-- a command that words may name
abbrev pub Fits : Command → Type 0
Fits Info = ⊤
Fits (Replay pixels frames) = FitsFrames frames
Fits (Trim r) = FitsRange r
Fits (Lean r) = FitsRange r
Fits Upgrade = ⊤
Fits Lists = ⊤
Fits Unlists = ⊤
Fits (Make frames) = (3 ≤ frames) × (frames ≤ 1000)
Fits Help = ⊤
Fits Version = ⊤
