-- What is written of a log.
use Rattle.std.specs.Prelude.{◌≡◌, ◌⊎◌, ◌≤◌, ℕ, List, Option, Result, Ok, Err, ⊤}
use Rattle.std.specs.Io.KnownBytes.{Appends}
use Rattle.gfx_io.specs.Pieces.{AppendsPart}
use Rattle.gfx_model.specs.Blocks.{clean}
use Rattle.gfx_model.specs.Frames.{frames}
use Rattle.gfx_model.specs.Meaning.{Means}
use Rattle.gfx_script_model.specs.Runs.{Entry, history}
use Rattle.gfx_capture.specs.Log.{Logged}
use Rattle.gfx_log_law.specs.Logs.{log_file}
use Rattle.gfx_player.specs.declared.asked.Asked.{Asked}
use Rattle.gfx_player.specs.declared.asked.Asked.TheVariants.{All, Between}
use Rattle.gfx_trim.specs.Keeps.{Keeps}
use Rattle.gfx_trim.specs.Trims.{IsWithout}
use Rattle.gfx_trim.specs.Written.{written}
use Rattle.gfx_recording.specs.declared.fault.RecordingFault.{RecordingFault}
use Rattle.gfx_recording.specs.declared.fault.RecordingFault.TheVariants.{NoSuchFrame, SinkFault, WantMemory}

-- a range has its first frame before its last
abbrev pub IsOrdered : Asked → Type 0
IsOrdered All = ⊤
IsOrdered (Between first last) = first ≤ last

-- the file of a log ends cleanly, and shows the frames of its history
abbrev pub MeansHistory : ℕ → List Entry → Type 0
MeansHistory m log = Means (log_file m log) (frames (history log)) clean

-- a whole file was written, or a prefix of it and a write failed
abbrev pub WritesWhole : Option (List ℕ) → Option (List ℕ) → List ℕ → Result Unit RecordingFault → Type 0
WritesWhole before after file (Ok done) = Appends before after file
WritesWhole before after file (Err SinkFault) = AppendsPart before after file
WritesWhole before after file (Err _) = ⊥

-- a whole file was written and then this is answered, or a prefix of it and a write failed
abbrev pub TookThen : RecordingFault → Option (List ℕ) → Option (List ℕ) → List ℕ → Result Unit RecordingFault → Type 0
TookThen why before after file (Ok done) = ⊥
TookThen why before after file (Err fault) = ((fault ≡ why) × Appends before after file) ⊎ ((fault ≡ SinkFault) × AppendsPart before after file)

-- the range of the file was written, the file has no such range, or a prefix of the cut was written
abbrev pub Cuts : (first last : ℕ) → Option (List ℕ) → Option (List ℕ) → List ℕ → Result Unit RecordingFault → Type 0
Cuts first last before after file (Ok done) = Keeps first last before after file
Cuts first last before after file (Err (NoSuchFrame low high)) = (left : List ℕ) × IsWithout first last before after low high file left
Cuts first last before after file (Err SinkFault) = AppendsPart before after (written first last file)
Cuts first last before after file (Err WantMemory) = AppendsPart before after (written first last file)
Cuts first last before after file (Err _) = ⊥

-- the log was written, or the frames of it that are asked for
abbrev pub WritesAsked : Asked → Option (List ℕ) → Option (List ℕ) → Logged → Result Unit RecordingFault → Type 0
WritesAsked All before after log result = WritesWhole before after (log_file log.minor log.entries) result
WritesAsked (Between first last) before after log result = Cuts first last before after (log_file log.minor log.entries) result
