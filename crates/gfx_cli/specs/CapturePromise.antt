-- What is promised of words that begin with `capture`.
use Rattle.std.specs.Prelude.{◌≡◌, ◌⊎◌, ◌≤◌, ℕ, List, Result, Ok, Err, IfSome}
use Rattle.std.specs.Io.KnownBytes.{Appends}
use Rattle.gfx_io.specs.Pieces.{AppendsPart}
use Rattle.gfx_io.specs.Told.{IfTold, IsTold}
use Rattle.gfx_types.specs.declared.names.Fault.{Fault}
use Rattle.gfx_script.specs.declared.kind.ScriptKind.{ScriptKind}
use Rattle.gfx_recording.specs.Records.{IsSafeText, IsUnstopped, Leaves}
use Rattle.gfx_recording.specs.declared.fault.RecordingFault.{RecordingFault}
use Rattle.gfx_recording.specs.declared.fault.RecordingFault.TheVariants as why
use Rattle.gfx_words.specs.declared.recording.Recording.{Recording}
use Rattle.gfx_cli.specs.declared.status.Status.{Status}
use Rattle.gfx_cli.specs.declared.status.Status.TheVariants as status
use Rattle.gfx_cli.specs.Captures.{Ends, IsFault, IsUnstoppedAt}
use Rattle.gfx_cli.specs.CaptureRun.{Captures, IsCaptureNote, IsOfCaptures, LeavesFront}
use Rattle.gfx_cli.specs.Commands.{asked_by}
use Rattle.gfx_cli.specs.Seen.{Failed, Seen}
use Rattle.gfx_cli.specs.Text.{bad_script_line, log_full_line, no_such_frame_line, read_fault_line, refused_line, usage_line}
use Rattle.gfx_cli.specs.Words.{IsAsked, IsUnasked}

-- a recording ended so, before its fault is told, and a fault of the source or of the sink is one that was counted
pub record KeepsRecording {S K : Type 0} (r : Recording) (source : Seen S) (sink : Seen K) (end : Result Unit RecordingFault) : Type 0 where
  pub ends : IfTold source.bytes_before source.bytes_now (Ends r sink.bytes_before sink.bytes_now end)
  pub leaves : Leaves end (sink.now ≡ sink.before)
  pub complete : IsTold source.bytes_before → IfSome source.bytes_before (IsSafeText r.gathers (asked_by r.frames)) → ¬ Failed source → ¬ Failed sink
      → IsUnstopped end
  pub read_fault : end ≡ Err why.ReadFault → Failed source
  pub sink_fault : end ≡ Err why.SinkFault → Failed sink
  pub later : (source.faults_before ≤ source.faults_now) × (sink.faults_before ≤ sink.faults_now)

-- what `run_capture` promises
pub record KeepsCapture {S K N : Type 0} (words : List (List ℕ)) (source : Seen S) (sink : Seen K) (notes : Seen N) (result : Status) : Type 0 where
  pub statuses : IsOfCaptures result
  -- words that ask for no recording are answered by the usage line, before anything is read or written
  pub usage : result ≡ status.Usage → IsUnasked words × Appends notes.bytes_before notes.bytes_now usage_line
  pub refused : IsUnasked words → ((result ≡ status.Usage) ⊎ (result ≡ status.WriteFault)) × (source.now ≡ source.before) × (sink.now ≡ sink.before)
  -- every call was accepted: the log matches the script and is a valid history, and it was written, or just the frames that were asked for
  pub done : result ≡ status.Done → Captures words source.bytes_before source.bytes_now sink.bytes_before sink.bytes_now (Ok tt) × (notes.now ≡ notes.before)
  -- of a script no call of which can be refused, and which has the presents that are asked for, it comes to this end
  pub complete : (recording : Recording) → IsAsked words recording → IsTold source.bytes_before → IfSome source.bytes_before (IsSafeText recording.gathers (asked_by recording.frames))
      → ¬ Failed source → ¬ Failed sink → ¬ Failed notes → IsUnstoppedAt result
  -- a text is bad exactly where it is no script; its first line with a fault is noted
  pub bad_script : result ≡ status.BadScript → (line : ℕ) × (kind : ScriptKind)
      × Captures words source.bytes_before source.bytes_now sink.bytes_before sink.bytes_now (Err (why.BadScript line kind))
      × Appends notes.bytes_before notes.bytes_now (bad_script_line line kind)
  pub bad_exactly : (recording : Recording) → (line : ℕ) → (kind : ScriptKind)
      → IsAsked words recording → IsTold source.bytes_before → IfSome source.bytes_before (IsFault line kind)
      → ¬ Failed source → ¬ Failed sink → ¬ Failed notes
      → (result ≡ status.WantMemory) ⊎ ((result ≡ status.BadScript) × Appends notes.bytes_before notes.bytes_now (bad_script_line line kind))
  -- a call is refused only where it is the next one of the least thread with lines left, and has this fault after so many blocks of the log;
  -- the whole log was written
  pub call_refused : result ≡ status.CallRefused → (line : ℕ) × (fault : Fault) × (at : ℕ)
      × Captures words source.bytes_before source.bytes_now sink.bytes_before sink.bytes_now (Err (why.CallRefused line fault at))
      × Appends notes.bytes_before notes.bytes_now (refused_line line fault at)
  -- the log is full only where first blocks of it have this length and the next call of that thread has no room behind them; the whole log was written
  pub log_full : result ≡ status.LogFull → (length : ℕ) × (wanted : ℕ)
      × Captures words source.bytes_before source.bytes_now sink.bytes_before sink.bytes_now (Err (why.LogFull length wanted))
      × Appends notes.bytes_before notes.bytes_now (log_full_line length wanted)
  -- a frame isn't there only where every call was accepted, and the range begins at 0 or ends behind the script's last present; its frames are noted
  pub no_such_frame : result ≡ status.NoSuchFrame → (first : ℕ) × (last : ℕ)
      × Captures words source.bytes_before source.bytes_now sink.bytes_before sink.bytes_now (Err (why.NoSuchFrame first last))
      × Appends notes.bytes_before notes.bytes_now (no_such_frame_line first last)
  -- a fault of the source or of a sink is one that was counted in this call; nothing is written of a text that isn't a script or was not read
  pub read_fault : result ≡ status.ReadFault → Failed source × Appends notes.bytes_before notes.bytes_now read_fault_line
  pub unwritten : (result ≡ status.BadScript) ⊎ (result ≡ status.ReadFault) → sink.now ≡ sink.before
  pub write_fault : result ≡ status.WriteFault → Failed sink ⊎ Failed notes
  pub later : (source.faults_before ≤ source.faults_now) × (sink.faults_before ≤ sink.faults_now) × (notes.faults_before ≤ notes.faults_now)
  -- where it isn't done the sink took a prefix of what is written of the log, and the notes in any case a prefix of the line that there was a reason for
  pub front : (result ≡ status.Done → ⊥) → (sink.bytes_now ≡ sink.bytes_before)
      ⊎ LeavesFront words source.bytes_before source.bytes_now sink.bytes_before sink.bytes_now
  pub noted : (notes.now ≡ notes.before) ⊎ ((line : List ℕ) × IsCaptureNote words source.bytes_before source.bytes_now
      sink.bytes_before sink.bytes_now (record { before = source.faults_before; now = source.faults_now }) line
      × AppendsPart notes.bytes_before notes.bytes_now line)
  pub no_memory : result ≡ status.WantMemory → notes.now ≡ notes.before
