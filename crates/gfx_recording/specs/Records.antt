-- What a recording answers, and what was written.
use Rattle.std.specs.Prelude.{◌≡◌, ◌⊎◌, ◌<◌, ◌≤◌, ◌+◌, ℕ, Bool, List, [], ◌++◌, length, Option, Result, Ok, Err, ⊤}
use Rattle.gfx_model.specs.Limits.{max_script}
use Rattle.gfx_script_model.specs.Scripts.{Part, Parses, parses, fails}
use Rattle.gfx_script_model.specs.Runs.{Safe}
use Rattle.gfx_script.specs.Kinds.{kind_of}
use Rattle.gfx_script.specs.Line.{phases_of}
use Rattle.gfx_script.specs.State.{ParsesAs}
use Rattle.gfx_script.specs.declared.script.Script.{Script}
use Rattle.gfx_script.specs.declared.kind.ScriptKind.{ScriptKind}
use Rattle.gfx_script_law.specs.Presents.{presents}
use Rattle.gfx_gather.specs.Shown.{shown_phases}
use Rattle.gfx_capture.specs.Log.{IsSound}
use Rattle.gfx_log_law.specs.Logs.{log_file}
use Rattle.gfx_player.specs.declared.asked.Asked.{Asked}
use Rattle.gfx_player.specs.declared.asked.Asked.TheVariants.{All, Between}
use Rattle.gfx_recorder.specs.Outcomes.{IsOutcome}
use Rattle.gfx_recorder.specs.declared.outcome.Outcome.{Outcome}
use Rattle.gfx_recorder.specs.declared.outcome.Outcome.TheVariants as ran
use Rattle.gfx_recording.specs.Writing.{MeansHistory, TookThen, WritesAsked}
use Rattle.gfx_recording.specs.declared.fault.RecordingFault.{RecordingFault}
use Rattle.gfx_recording.specs.declared.fault.RecordingFault.TheVariants.{BadScript, CallRefused, LogFull, NoSuchFrame, ReadFault, WantMemory}

-- ---- the text

-- The text is what a source told up to its end, or one byte more than a script may have.
pub record IsTextOf (text before after : List ℕ) : Type 0 where
  pub parts : before ≡ text ++ after
  pub few : length text ≤ max_script + 1
  pub ended : length text ≤ max_script → after ≡ []

-- the script that a text is, or its first line with a fault
abbrev pub IsScriptOf : List ℕ → Result Script RecordingFault → Type 0
IsScriptOf text (Ok script) = ParsesAs text (parses script.minor (phases_of script.phases))
IsScriptOf text (Err (BadScript line kind)) = ParsesAs text (fails line (kind_of kind))
IsScriptOf text (Err WantMemory) = ⊤
IsScriptOf text (Err _) = ⊥

-- the text of the source is no script, and this is its first line with a fault
pub record IsBadScript (line : ℕ) (kind : ScriptKind) (before after : List ℕ) : Type 0 where
  pub text : List ℕ
  pub read : IsTextOf text before after
  pub fails : ParsesAs text (fails line (kind_of kind))

-- ---- the log

-- what was written of what a run left, by the answer
abbrev pub Writes : Asked → Option (List ℕ) → Option (List ℕ) → Outcome → Result Unit RecordingFault → Type 0
Writes asked before after (ran.Done log) result = WritesAsked asked before after log result
Writes asked before after (ran.Refused line fault at log) result = TookThen (CallRefused line fault at) before after (log_file log.minor log.entries) result
Writes asked before after (ran.LogFull long wanted log) result = TookThen (LogFull long wanted) before after (log_file log.minor log.entries) result
Writes asked before after ran.WantMemory result = (result ≡ Err WantMemory) × (after ≡ before)

-- the log that a run left means its history, as a file
abbrev pub LeftMeans : Outcome → Type 0
LeftMeans (ran.Done log) = MeansHistory log.minor log.entries
LeftMeans (ran.Refused line fault at log) = MeansHistory log.minor log.entries
LeftMeans (ran.LogFull long wanted log) = MeansHistory log.minor log.entries
LeftMeans ran.WantMemory = ⊤

-- the entries of a log that has all calls are those of every log
abbrev pub LeftIsSound : Outcome → Type 0
LeftIsSound (ran.Done log) = IsSound log.minor log.entries
LeftIsSound _ = ⊤

-- ---- the frames

-- the frames that are asked for are among so many, which are numbered from 1 on
abbrev pub AreFrames : Asked → ℕ → Type 0
AreFrames All count = ⊤
AreFrames (Between first last) count = (1 ≤ first) × (last ≤ count)

-- the range begins at 0, or ends behind the last of so many
abbrev pub AreNoFrames : Asked → ℕ → Type 0
AreNoFrames All count = ⊥
AreNoFrames (Between first last) count = (first ≡ 0) ⊎ (count < last)

-- a frame isn't there only where the range isn't among the presents of the script, which are told
abbrev pub TellsFrames : Asked → ℕ → Result Unit RecordingFault → Type 0
TellsFrames asked count (Err (NoSuchFrame first last)) = AreNoFrames asked count × (first ≡ 1) × (last ≡ count)
TellsFrames asked count _ = ⊤

-- ---- the recording

-- the source was read to its end, its text is a script, which was run, with writes gathered where that is asked for, the log that the run left is a file of its history, and this is what was written of it
pub record IsRecorded (gathers : Bool) (asked : Asked) (before after : Option (List ℕ)) (result : Result Unit RecordingFault) (bytes rest : List ℕ) : Type 0 where
  pub read : rest ≡ []
  pub minor : ℕ
  pub phases : List (List Part)
  pub parses : Parses bytes (parses minor phases)
  pub outcome : Outcome
  pub ran : IsOutcome minor (shown_phases gathers phases) outcome
  pub means : LeftMeans outcome
  pub wrote : Writes asked before after outcome result
  pub frames : TellsFrames asked (presents phases) result

-- how a recording ends
abbrev pub Records : Bool → Asked → Option (List ℕ) → Option (List ℕ) → Result Unit RecordingFault → List ℕ → List ℕ → Type 0
Records gathers asked before after (Err (BadScript line kind)) bytes rest = IsBadScript line kind bytes rest
Records gathers asked before after (Err ReadFault) bytes rest = ⊤
Records gathers asked before after (Err WantMemory) bytes rest = (after ≡ before) ⊎ IsRecorded gathers asked before after (Err WantMemory) bytes rest
Records gathers asked before after result bytes rest = IsRecorded gathers asked before after result bytes rest

-- nothing was written where the text is no script or was not read
abbrev pub Leaves : Result Unit RecordingFault → Type 0 → Type 0
Leaves (Err (BadScript line kind)) unwritten = unwritten
Leaves (Err ReadFault) unwritten = unwritten
Leaves _ unwritten = ⊤

-- a text that is a script no call of which can be refused, with writes gathered where that is asked for, and which has the frames that are asked for
abbrev pub IsSafeText : Bool → Asked → List ℕ → Type 0
IsSafeText gathers asked text =
    (minor : ℕ) × (phases : List (List Part)) × Parses text (parses minor phases) × Safe minor (shown_phases gathers phases)
    × AreFrames asked (presents phases)

-- only a lack of memory stopped the recording
abbrev pub IsUnstopped : Result Unit RecordingFault → Type 0
IsUnstopped (Ok done) = ⊤
IsUnstopped (Err WantMemory) = ⊤
IsUnstopped (Err _) = ⊥
