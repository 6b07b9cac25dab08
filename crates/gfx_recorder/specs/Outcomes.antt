-- What a run of a script gives.
use Rattle.std.specs.Prelude.{◌≡◌, ◌⊎◌, ℕ, ◌<◌, true, false, List, length, slice_index_or}
use Rattle.gfx_types.specs.declared.names.Fault.{Fault}
use Rattle.gfx_model.specs.History.{is_valid}
use Rattle.gfx_script_model.specs.Runs.{Entry, Matches, history}
use Rattle.gfx_script_model.specs.Scripts.{Part}
use Rattle.gfx_capture.specs.Log.{Logged}
use Rattle.gfx_capture.specs.Append.{IsFaulty, IsFull}
use Rattle.gfx_run_law.specs.Halted.{IsHalted}
use Rattle.gfx_recorder.specs.declared.end.End.{End}
use Rattle.gfx_recorder.specs.declared.end.End.TheVariants as ended
use Rattle.gfx_recorder.specs.declared.outcome.Outcome.{Outcome}
use Rattle.gfx_recorder.specs.declared.outcome.Outcome.TheVariants.{Done, Refused, LogFull, WantMemory}
use Rattle.gfx_recorder.specs.declared.worker.Worker.{Worker}
use Rattle.gfx_recorder.specs.Ends.{is_all}

-- a run ended at its least stopped thread, at a line of this number, since its call has the fault after `at` entries
pub record IsRefusedAt (m : ℕ) (phases : List (List Part)) (log : List Entry) (line : ℕ) (fault : Fault) (at : ℕ) : Type 0 where
  pub halted : IsHalted m phases log
  pub line_is : halted.stop.line.number ≡ line
  pub at_is : length halted.before ≡ at
  pub faulty : IsFaulty m halted.least halted.before halted.stop.event fault

-- or since its block, of the length that is needed, doesn't fit after the first `long` bytes
pub record IsFullAt (m : ℕ) (phases : List (List Part)) (log : List Entry) (long wanted : ℕ) : Type 0 where
  pub halted : IsHalted m phases log
  pub full : IsFull m halted.least halted.before halted.stop.event long wanted

-- Done: the log matches the script and is valid. Refused and LogFull: it is a run of the script up to a phase, each thread of
-- which with lines left is stopped, and this is the answer to the least of them. Out of memory says nothing
abbrev pub IsOutcome : ℕ → List (List Part) → Outcome → Type 0
IsOutcome m phases (Done log) = (log.minor ≡ m) × Matches m phases log.entries × (is_valid (history log.entries) ≡ true)
IsOutcome m phases (Refused line fault at log) = (log.minor ≡ m) × IsRefusedAt m phases log.entries line fault at
IsOutcome m phases (LogFull long wanted log) = (log.minor ≡ m) × IsFullAt m phases log.entries long wanted
IsOutcome m phases WantMemory = Unit {0}

-- all is done, or memory was wanting
abbrev pub IsDone : Outcome → Type 0
IsDone (Done log) = Unit {0}
IsDone (Refused line fault at log) = ⊥
IsDone (LogFull long wanted log) = ⊥
IsDone WantMemory = Unit {0}

-- what a worker's end makes of the log
abbrev pub outcome_of : End → Logged → Outcome
outcome_of ended.All log = Done log
outcome_of (ended.Refused line fault at) log = Refused line fault at log
outcome_of (ended.LogFull long wanted) log = LogFull long wanted log
outcome_of ended.WantMemory log = WantMemory

-- the end of the first worker that did not come to the end of its lines, or All where each did
abbrev pub IsFirstEnd : List Worker → End → Type 0
IsFirstEnd ws end =
    ((t : ℕ) × (t < length ws) × ((d : Worker) → (slice_index_or ws t d).end ≡ end) × (is_all end ≡ false)
    × ((u : ℕ) (d : Worker) → u < t → is_all (slice_index_or ws u d).end ≡ true))
    ⊎ ((end ≡ ended.All) × ((u : ℕ) (d : Worker) → u < length ws → is_all (slice_index_or ws u d).end ≡ true))
