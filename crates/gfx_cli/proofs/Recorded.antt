-- How a recording of the frames that are asked for ends.
use Rattle.std.proofs.Common.{◌≡◌, ◌≢◌, ◌⊎◌, inl, inr, ℕ, Bool, List, length, Option, Some, None, Result, Ok, Err, sym, subst}
use Rattle.std.specs.Io.KnownBytes.{Appends}
use Rattle.gfx_io.specs.Pieces.{AppendsPart}
use Rattle.gfx_types.specs.declared.names.Fault.{Fault}
use Rattle.gfx_script_model.specs.Scripts.{Part}
use Rattle.gfx_script_model.specs.Runs.{Entry}
use Rattle.gfx_player.specs.declared.asked.Asked.{Asked}
use Rattle.gfx_capture.specs.Log.{Logged}
use Rattle.gfx_gather.specs.Shown.{shown_phases}
use Rattle.gfx_log_law.specs.Logs.{log_file}
use Rattle.gfx_recorder.specs.Outcomes.{IsOutcome, IsRefusedAt, IsFullAt}
use Rattle.gfx_recorder.specs.declared.outcome.Outcome.{Outcome}
use Rattle.gfx_recorder.specs.declared.outcome.Outcome.TheVariants as ran
use Rattle.gfx_recording.specs.Records.{IsRecorded, LeftMeans, Records, Writes}
use Rattle.gfx_recording.specs.Writing.{MeansHistory, TookThen, WritesAsked}
use Rattle.gfx_recording.specs.declared.fault.RecordingFault.{RecordingFault}
use Rattle.gfx_recording.specs.declared.fault.RecordingFault.TheVariants.{BadScript, CallRefused, LogFull, NoSuchFrame, ReadFault, SinkFault, WantMemory}
use Rattle.gfx_trim.specs.Trims.{IsWithout}
use Rattle.gfx_words.specs.declared.range.FrameRange.{FrameRange}
use Rattle.gfx_words.specs.declared.recording.Recording.{Recording}
use Rattle.gfx_cli.specs.Captures.{Ends, IsRun, IsWhole, Lacks, Took, TookFront, written_of}
use Rattle.gfx_cli.specs.Commands.{asked_by}

-- what stopped a run before all its calls were accepted
abbrev Halts : RecordingFault → ℕ → List (List Part) → List Entry → Type 0
Halts (CallRefused line fault at) m phases log = IsRefusedAt m phases log line fault at
Halts (LogFull long wanted) m phases log = IsFullAt m phases log long wanted
Halts _ m phases log = ⊥

-- a log as it was left, in the version of the script
in_version : (F : List ℕ → Type 0) (m : ℕ) (log : Logged) → log.minor ≡ m → F (log_file log.minor log.entries) → F (log_file m log.entries)
in_version F m log same is = subst (λ k. F (log_file k log.entries)) same is

-- ---- every call was accepted

took_by : (frames : Option FrameRange) (before after : Option (List ℕ)) (log : Logged) → WritesAsked (asked_by frames) before after log (Ok tt)
    → Took frames before after (log_file log.minor log.entries)
took_by None before after log wrote = wrote
took_by (Some r) before after log wrote = wrote

lacks_by : (frames : Option FrameRange) (before after : Option (List ℕ)) (first last : ℕ) (log : Logged) → WritesAsked (asked_by frames) before after log (Err (NoSuchFrame first last))
    → Lacks frames before after first last (log_file log.minor log.entries)
lacks_by None before after first last log wrote = absurd wrote
lacks_by (Some r) before after first last log (left, is) = subst (IsWithout r.first r.last before after first last (log_file log.minor log.entries)) is.read is

-- a prefix of it was written
part_by : (frames : Option FrameRange) (before after : Option (List ℕ)) (log : Logged) → WritesAsked (asked_by frames) before after log (Err SinkFault)
    → AppendsPart before after (written_of frames (log_file log.minor log.entries))
part_by None before after log wrote = wrote
part_by (Some r) before after log wrote = wrote

want_by : (frames : Option FrameRange) (before after : Option (List ℕ)) (log : Logged) → WritesAsked (asked_by frames) before after log (Err WantMemory)
    → AppendsPart before after (written_of frames (log_file log.minor log.entries))
want_by None before after log wrote = absurd wrote
want_by (Some r) before after log wrote = wrote

-- no call was refused, and there was room
no_call : (frames : Option FrameRange) (before after : Option (List ℕ)) (log : Logged) (line : ℕ) (fault : Fault) (at : ℕ) → WritesAsked (asked_by frames) before after log (Err (CallRefused line fault at)) → ⊥
no_call None before after log line fault at wrote = wrote
no_call (Some r) before after log line fault at wrote = wrote

no_full : (frames : Option FrameRange) (before after : Option (List ℕ)) (log : Logged) (long wanted : ℕ) → WritesAsked (asked_by frames) before after log (Err (LogFull long wanted)) → ⊥
no_full None before after log long wanted wrote = wrote
no_full (Some r) before after log long wanted wrote = wrote

-- ---- a call was not accepted

-- what stopped the run is answered once the whole log was written
halted_by : (why fault : RecordingFault) (m : ℕ) (phases : List (List Part)) (entries : List Entry) (before after : Option (List ℕ)) (file : List ℕ) → fault ≢ SinkFault
    → Halts why m phases entries → TookThen why before after file (Err fault) → Halts fault m phases entries × Appends before after file
halted_by why fault m phases entries before after file other halts (inl (same, took)) = (subst (λ f. Halts f m phases entries) (sym same) halts, took)
halted_by why fault m phases entries before after file other halts (inr (same, part)) = absurd (other same)

-- or a prefix of it was written
front_by : (why : RecordingFault) (before after : Option (List ℕ)) (file : List ℕ) → why ≢ SinkFault → TookThen why before after file (Err SinkFault) → AppendsPart before after file
front_by why before after file other (inl (same, took)) = absurd (other (sym same))
front_by why before after file other (inr (same, part)) = part

-- nothing else is answered
no_other : (why fault : RecordingFault) (before after : Option (List ℕ)) (file : List ℕ) → fault ≢ why → fault ≢ SinkFault → TookThen why before after file (Err fault) → ⊥
no_other why fault before after file other sink (inl (same, took)) = other same
no_other why fault before after file other sink (inr (same, part)) = sink same

-- ---- by what the run left

-- its log means its history in the version of the script
meant : (m : ℕ) (log : Logged) → log.minor ≡ m → MeansHistory log.minor log.entries → MeansHistory m log.entries
meant m log same means = subst (λ k. MeansHistory k log.entries) same means

whole_by : (frames : Option FrameRange) (before after : Option (List ℕ)) (m : ℕ) (phases : List (List Part)) (outcome : Outcome) → IsOutcome m phases outcome → LeftMeans outcome
    → Writes (asked_by frames) before after outcome (Ok tt) → (log : List Entry) × MeansHistory m log × (IsWhole m phases log × Took frames before after (log_file m log))
whole_by frames before after m phases (ran.Done log) is means wrote =
    (log.entries, meant m log is.0 means, (record { matches = is.1; valid = is.2 }, in_version (Took frames before after) m log is.0 (took_by frames before after log wrote)))
whole_by frames before after m phases (ran.Refused line fault at log) is means wrote = absurd wrote
whole_by frames before after m phases (ran.LogFull long wanted log) is means wrote = absurd wrote
whole_by frames before after m phases ran.WantMemory is means wrote = absurd (let e : Ok tt ≡ Err WantMemory = wrote.0 in cc)

lack_by : (frames : Option FrameRange) (before after : Option (List ℕ)) (first last m : ℕ) (phases : List (List Part)) (outcome : Outcome) → IsOutcome m phases outcome → LeftMeans outcome
    → Writes (asked_by frames) before after outcome (Err (NoSuchFrame first last)) → (log : List Entry) × MeansHistory m log × (IsWhole m phases log × Lacks frames before after first last (log_file m log))
lack_by frames before after first last m phases (ran.Done log) is means wrote =
    (log.entries, meant m log is.0 means, (record { matches = is.1; valid = is.2 }, in_version (Lacks frames before after first last) m log is.0 (lacks_by frames before after first last log wrote)))
lack_by frames before after first last m phases (ran.Refused line fault at log) is means wrote = absurd (no_other _ _ before after _ (λ e. absurd cc) (λ e. absurd cc) wrote)
lack_by frames before after first last m phases (ran.LogFull long wanted log) is means wrote = absurd (no_other _ _ before after _ (λ e. absurd cc) (λ e. absurd cc) wrote)
lack_by frames before after first last m phases ran.WantMemory is means wrote = absurd (let e = wrote.0 in cc)

call_by : (frames : Option FrameRange) (before after : Option (List ℕ)) (line : ℕ) (fault : Fault) (at m : ℕ) (phases : List (List Part)) (outcome : Outcome) → IsOutcome m phases outcome → LeftMeans outcome
    → Writes (asked_by frames) before after outcome (Err (CallRefused line fault at)) → (log : List Entry) × MeansHistory m log × (IsRefusedAt m phases log line fault at × Appends before after (log_file m log))
call_by frames before after line fault at m phases (ran.Done log) is means wrote = absurd (no_call frames before after log line fault at wrote)
call_by frames before after line fault at m phases (ran.Refused number why place log) is means wrote =
    let by = halted_by (CallRefused number why place) (CallRefused line fault at) m phases log.entries before after _ (λ e. absurd cc) is.1 wrote in
    (log.entries, meant m log is.0 means, (by.0, in_version (Appends before after) m log is.0 by.1))
call_by frames before after line fault at m phases (ran.LogFull long wanted log) is means wrote = absurd (no_other _ _ before after _ (λ e. absurd cc) (λ e. absurd cc) wrote)
call_by frames before after line fault at m phases ran.WantMemory is means wrote = absurd (let e = wrote.0 in cc)

full_by : (frames : Option FrameRange) (before after : Option (List ℕ)) (long wanted m : ℕ) (phases : List (List Part)) (outcome : Outcome) → IsOutcome m phases outcome → LeftMeans outcome
    → Writes (asked_by frames) before after outcome (Err (LogFull long wanted)) → (log : List Entry) × MeansHistory m log × (IsFullAt m phases log long wanted × Appends before after (log_file m log))
full_by frames before after long wanted m phases (ran.Done log) is means wrote = absurd (no_full frames before after log long wanted wrote)
full_by frames before after long wanted m phases (ran.Refused line fault at log) is means wrote = absurd (no_other _ _ before after _ (λ e. absurd cc) (λ e. absurd cc) wrote)
full_by frames before after long wanted m phases (ran.LogFull length most log) is means wrote =
    let by = halted_by (LogFull length most) (LogFull long wanted) m phases log.entries before after _ (λ e. absurd cc) is.1 wrote in
    (log.entries, meant m log is.0 means, (by.0, in_version (Appends before after) m log is.0 by.1))
full_by frames before after long wanted m phases ran.WantMemory is means wrote = absurd (let e = wrote.0 in cc)

sink_by : (frames : Option FrameRange) (before after : Option (List ℕ)) (m : ℕ) (phases : List (List Part)) (outcome : Outcome) → IsOutcome m phases outcome → LeftMeans outcome
    → Writes (asked_by frames) before after outcome (Err SinkFault) → (log : List Entry) × MeansHistory m log × TookFront frames before after m phases log
sink_by frames before after m phases (ran.Done log) is means wrote =
    (log.entries, meant m log is.0 means, inl (record { matches = is.1; valid = is.2 }, in_version (λ file. AppendsPart before after (written_of frames file)) m log is.0 (part_by frames before after log wrote)))
sink_by frames before after m phases (ran.Refused line fault at log) is means wrote =
    (log.entries, meant m log is.0 means, inr (is.1.halted, in_version (AppendsPart before after) m log is.0 (front_by _ before after _ (λ e. absurd cc) wrote)))
sink_by frames before after m phases (ran.LogFull long wanted log) is means wrote =
    (log.entries, meant m log is.0 means, inr (is.1.halted, in_version (AppendsPart before after) m log is.0 (front_by _ before after _ (λ e. absurd cc) wrote)))
sink_by frames before after m phases ran.WantMemory is means wrote = absurd (let e = wrote.0 in cc)

memory_by : (frames : Option FrameRange) (before after : Option (List ℕ)) (m : ℕ) (phases : List (List Part)) (outcome : Outcome) → IsOutcome m phases outcome → LeftMeans outcome
    → Writes (asked_by frames) before after outcome (Err WantMemory) → (after ≡ before) ⊎ ((log : List Entry) × MeansHistory m log × TookFront frames before after m phases log)
memory_by frames before after m phases (ran.Done log) is means wrote =
    inr (log.entries, meant m log is.0 means, inl (record { matches = is.1; valid = is.2 }, in_version (λ file. AppendsPart before after (written_of frames file)) m log is.0 (want_by frames before after log wrote)))
memory_by frames before after m phases (ran.Refused line fault at log) is means wrote = absurd (no_other _ _ before after _ (λ e. absurd cc) (λ e. absurd cc) wrote)
memory_by frames before after m phases (ran.LogFull long wanted log) is means wrote = absurd (no_other _ _ before after _ (λ e. absurd cc) (λ e. absurd cc) wrote)
memory_by frames before after m phases ran.WantMemory is means wrote = inl wrote.1

-- ---- how it ends

-- a script was run, and this is so of what it left
run_of : (gathers : Bool) (P : ℕ → List (List Part) → List Entry → Type 0) (asked : Asked) (before after : Option (List ℕ)) (end : Result Unit RecordingFault) (bytes rest : List ℕ)
    → (is : IsRecorded gathers asked before after end bytes rest) → ((log : List Entry) × MeansHistory is.minor log × P is.minor (shown_phases gathers is.phases) log) → IsRun gathers P bytes rest
run_of gathers P asked before after end bytes rest is (log, means, so) = record { read = is.read; minor = is.minor; phases = is.phases; parses = is.parses; log = log; means = means; so = so }

pub ends_of : (r : Recording) (before after : Option (List ℕ)) (end : Result Unit RecordingFault) (bytes rest : List ℕ)
    → Records r.gathers (asked_by r.frames) before after end bytes rest → Ends r before after end bytes rest
ends_of r before after (Ok done) bytes rest is = run_of r.gathers _ _ before after (Ok tt) bytes rest is (whole_by r.frames before after is.minor (shown_phases r.gathers is.phases) is.outcome is.ran is.means is.wrote)
ends_of r before after (Err (NoSuchFrame first last)) bytes rest is =
    (run_of r.gathers _ _ before after (Err (NoSuchFrame first last)) bytes rest is (lack_by r.frames before after first last is.minor (shown_phases r.gathers is.phases) is.outcome is.ran is.means is.wrote), (is.minor, is.phases, is.parses, is.frames.0, is.frames.1, is.frames.2))
ends_of r before after (Err (CallRefused line fault at)) bytes rest is =
    run_of r.gathers _ _ before after (Err (CallRefused line fault at)) bytes rest is (call_by r.frames before after line fault at is.minor (shown_phases r.gathers is.phases) is.outcome is.ran is.means is.wrote)
ends_of r before after (Err (LogFull long wanted)) bytes rest is =
    run_of r.gathers _ _ before after (Err (LogFull long wanted)) bytes rest is (full_by r.frames before after long wanted is.minor (shown_phases r.gathers is.phases) is.outcome is.ran is.means is.wrote)
ends_of r before after (Err (BadScript line kind)) bytes rest is = is
ends_of r before after (Err ReadFault) bytes rest is = tt
ends_of r before after (Err SinkFault) bytes rest is =
    run_of r.gathers _ _ before after (Err SinkFault) bytes rest is (sink_by r.frames before after is.minor (shown_phases r.gathers is.phases) is.outcome is.ran is.means is.wrote)
ends_of r before after (Err WantMemory) bytes rest (inl same) = inl same
ends_of r before after (Err WantMemory) bytes rest (inr is) =
    elim (memory_by r.frames before after is.minor (shown_phases r.gathers is.phases) is.outcome is.ran is.means is.wrote) [
      | inl same ↦ inl same
      | inr left ↦ inr (run_of r.gathers _ _ before after (Err WantMemory) bytes rest is left)
    ]
