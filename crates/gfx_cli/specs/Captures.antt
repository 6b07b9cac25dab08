-- How a recording ends, over the bytes that the source had left and has left.
use Rattle.std.specs.Prelude.{◌≡◌, ◌⊎◌, ◌+◌, ℕ, Bool, true, List, [], take, Option, Some, None, Result, Ok, Err, ⊤}
use Rattle.std.specs.Io.KnownBytes.{Appends}
use Rattle.gfx_io.specs.Pieces.{AppendsPart}
use Rattle.gfx_model.specs.History.{is_valid}
use Rattle.gfx_model.specs.Limits.{max_script}
use Rattle.gfx_script_model.specs.Scripts.{Part, Parses, parses, fails}
use Rattle.gfx_script_model.specs.Runs.{Entry, Matches, history}
use Rattle.gfx_script.specs.Kinds.{kind_of}
use Rattle.gfx_script.specs.State.{ParsesAs}
use Rattle.gfx_script.specs.declared.kind.ScriptKind.{ScriptKind}
use Rattle.gfx_script_law.specs.Presents.{presents}
use Rattle.gfx_gather.specs.Shown.{shown_phases}
use Rattle.gfx_log_law.specs.Logs.{log_file}
use Rattle.gfx_run_law.specs.Halted.{IsHalted}
use Rattle.gfx_recorder.specs.Outcomes.{IsRefusedAt, IsFullAt}
use Rattle.gfx_recording.specs.Records.{AreNoFrames, IsBadScript}
use Rattle.gfx_recording.specs.Writing.{MeansHistory}
use Rattle.gfx_recording.specs.declared.fault.RecordingFault.{RecordingFault}
use Rattle.gfx_recording.specs.declared.fault.RecordingFault.TheVariants.{BadScript, CallRefused, LogFull, NoSuchFrame, ReadFault, SinkFault, WantMemory}
use Rattle.gfx_trim.specs.Keeps.{Keeps}
use Rattle.gfx_trim.specs.Trims.{IsWithout}
use Rattle.gfx_trim.specs.Written.{written}
use Rattle.gfx_words.specs.declared.range.FrameRange.{FrameRange}
use Rattle.gfx_words.specs.declared.recording.Recording.{Recording}
use Rattle.gfx_cli.specs.declared.status.Status.{Status}
use Rattle.gfx_cli.specs.declared.status.Status.TheVariants as status
use Rattle.gfx_cli.specs.Commands.{asked_by}
use Rattle.gfx_cli.specs.Text.{bad_script_line, refused_line, log_full_line, no_such_frame_line, read_fault_line}

-- the source was read to its end, its text is a script, and this is so of the script, with writes gathered where that is asked for, and of a log, which as a file ends cleanly and shows the frames of its history
pub record IsRun (gathers : Bool) (P : ℕ → List (List Part) → List Entry → Type 0) (bytes rest : List ℕ) : Type 0 where
  pub read : rest ≡ []
  pub minor : ℕ
  pub phases : List (List Part)
  pub parses : Parses bytes (parses minor phases)
  pub log : List Entry
  pub means : MeansHistory minor log
  pub so : P minor (shown_phases gathers phases) log

-- every call was accepted: the log has all lines of the script, and is a valid history
pub record IsWhole (m : ℕ) (phases : List (List Part)) (log : List Entry) : Type 0 where
  pub matches : Matches m phases log
  pub valid : is_valid (history log) ≡ true

-- the sink took this file, or of a range one that shows just these frames of it
abbrev pub Took : Option FrameRange → Option (List ℕ) → Option (List ℕ) → List ℕ → Type 0
Took None before after file = Appends before after file
Took (Some r) before after file = Keeps r.first r.last before after file

-- the file has frames with these numbers, the range is not among them, and the sink took what stands of it
abbrev pub Lacks : Option FrameRange → Option (List ℕ) → Option (List ℕ) → ℕ → ℕ → List ℕ → Type 0
Lacks None before after first last file = ⊥
Lacks (Some r) before after first last file = IsWithout r.first r.last before after first last file []

-- the text is a script whose presents are these frames, and the range is not among them
abbrev pub LacksPresents : Option FrameRange → (first last : ℕ) → List ℕ → Type 0
LacksPresents frames first last bytes =
    (minor : ℕ) × (phases : List (List Part)) × Parses bytes (parses minor phases)
    × AreNoFrames (asked_by frames) (presents phases) × (first ≡ 1) × (last ≡ presents phases)

-- what is written of the file of a log
abbrev pub written_of : Option FrameRange → List ℕ → List ℕ
written_of None file = file
written_of (Some r) file = written r.first r.last file

-- the sink took a prefix of what is written of a log: of one in which a call was not accepted that is the whole file
abbrev pub TookFront : Option FrameRange → Option (List ℕ) → Option (List ℕ) → ℕ → List (List Part) → List Entry → Type 0
TookFront frames before after m phases log =
    (IsWhole m phases log × AppendsPart before after (written_of frames (log_file m log)))
    ⊎ (IsHalted m phases log × AppendsPart before after (log_file m log))

-- how a recording ends
abbrev pub Ends : Recording → Option (List ℕ) → Option (List ℕ) → Result Unit RecordingFault → List ℕ → List ℕ → Type 0
Ends r before after (Ok done) bytes rest =
    IsRun r.gathers (λ m phases log. IsWhole m phases log × Took r.frames before after (log_file m log)) bytes rest
Ends r before after (Err (NoSuchFrame first last)) bytes rest =
    IsRun r.gathers (λ m phases log. IsWhole m phases log × Lacks r.frames before after first last (log_file m log)) bytes rest
    × LacksPresents r.frames first last bytes
Ends r before after (Err (CallRefused line fault at)) bytes rest =
    IsRun r.gathers (λ m phases log. IsRefusedAt m phases log line fault at × Appends before after (log_file m log)) bytes rest
Ends r before after (Err (LogFull long wanted)) bytes rest =
    IsRun r.gathers (λ m phases log. IsFullAt m phases log long wanted × Appends before after (log_file m log)) bytes rest
Ends r before after (Err (BadScript line kind)) bytes rest = IsBadScript line kind bytes rest
Ends r before after (Err ReadFault) bytes rest = ⊤
Ends r before after (Err SinkFault) bytes rest = IsRun r.gathers (TookFront r.frames before after) bytes rest
Ends r before after (Err WantMemory) bytes rest = (after ≡ before) ⊎ IsRun r.gathers (TookFront r.frames before after) bytes rest

-- the text, of which no more is read than a byte above what a script may have, is none, and this is its first line with a fault
abbrev pub IsFault : ℕ → ScriptKind → List ℕ → Type 0
IsFault line kind bytes = ParsesAs (take (max_script + 1) bytes) (fails line (kind_of kind))

-- only a lack of memory stopped the recording, by the status
abbrev pub IsUnstoppedAt : Status → Type 0
IsUnstoppedAt status.Done = ⊤
IsUnstoppedAt status.WantMemory = ⊤
IsUnstoppedAt _ = ⊥

-- the status with which the program ends
abbrev pub status_of : RecordingFault → Status
status_of (BadScript line kind) = status.BadScript
status_of (CallRefused line fault at) = status.CallRefused
status_of (LogFull long wanted) = status.LogFull
status_of (NoSuchFrame first last) = status.NoSuchFrame
status_of ReadFault = status.ReadFault
status_of SinkFault = status.WriteFault
status_of WantMemory = status.WantMemory

-- the line in the notes, if there is one
abbrev pub line_of : RecordingFault → List ℕ
line_of (BadScript line kind) = bad_script_line line kind
line_of (CallRefused line fault at) = refused_line line fault at
line_of (LogFull long wanted) = log_full_line long wanted
line_of (NoSuchFrame first last) = no_such_frame_line first last
line_of ReadFault = read_fault_line
line_of SinkFault = []
line_of WantMemory = []
