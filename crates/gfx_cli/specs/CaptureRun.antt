-- How a run of `capture` ends.
use Rattle.std.specs.Prelude.{◌≡◌, ℕ, List, Result, Err, ⊤}
use Rattle.std.specs.declared.option.Option.{Option}
use Rattle.gfx_io.specs.Causes.{Rose}
use Rattle.gfx_io.specs.Told.{IfTold}
use Rattle.gfx_words.specs.declared.recording.Recording.{Recording}
use Rattle.gfx_recording.specs.declared.fault.RecordingFault.{RecordingFault}
use Rattle.gfx_recording.specs.declared.fault.RecordingFault.TheVariants.{ReadFault as NotRead}
use Rattle.gfx_cli.specs.declared.status.Status.{Status}
use Rattle.gfx_cli.specs.declared.status.Status.TheVariants.{Done, WantMemory, Usage, BadFile, NoSuchFrame, ReadFault, WriteFault, BadScript, CallRefused, LogFull, BadListing}
use Rattle.gfx_cli.specs.Captures.{Ends, IsRun, TookFront, line_of}
use Rattle.gfx_cli.specs.Run.{Failures}
use Rattle.gfx_cli.specs.Text.{usage_line}
use Rattle.gfx_cli.specs.Words.{IsAsked, IsUnasked}

-- the statuses of a recording
abbrev pub IsOfCaptures : Status → Type 0
IsOfCaptures Done = ⊤
IsOfCaptures WantMemory = ⊤
IsOfCaptures Usage = ⊤
IsOfCaptures BadFile = ⊥
IsOfCaptures NoSuchFrame = ⊤
IsOfCaptures ReadFault = ⊤
IsOfCaptures WriteFault = ⊤
IsOfCaptures BadScript = ⊤
IsOfCaptures CallRefused = ⊤
IsOfCaptures LogFull = ⊤
IsOfCaptures BadListing = ⊥

-- the words ask for a recording, and it ended so
pub record Captures (words : List (List ℕ)) (left_old left_new taken_old taken_new : Option (List ℕ)) (end : Result Unit RecordingFault) : Type 0 where
  pub recording : Recording
  pub asked : IsAsked words recording
  pub ends : IfTold left_old left_new (Ends recording taken_old taken_new end)

-- the words ask for a recording, and the sink took a prefix of what is written of a log of the script
pub record LeavesFront (words : List (List ℕ)) (left_old left_new taken_old taken_new : Option (List ℕ)) : Type 0 where
  pub recording : Recording
  pub asked : IsAsked words recording
  pub front : IfTold left_old left_new (IsRun recording.gathers (TookFront recording.frames taken_old taken_new))

-- the line that is noted, where there is a reason for it
pub data IsCaptureNote (words : List (List ℕ)) (left_old left_new taken_old taken_new : Option (List ℕ)) (reads : Failures) : List ℕ → Type 0 where
  usage_noted : IsUnasked words → IsCaptureNote words left_old left_new taken_old taken_new reads usage_line
  fault_noted : (fault : RecordingFault) → Captures words left_old left_new taken_old taken_new (Err fault) → (fault ≡ NotRead → Rose reads.before reads.now)
      → IsCaptureNote words left_old left_new taken_old taken_new reads (line_of fault)
