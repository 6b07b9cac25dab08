-- What appending to a log answers, and what stands then.
use Rattle.std.specs.Prelude.{◌≡◌, ◌<◌, ◌≤◌, ℕ, ◌+◌, List, [], ◌∷◌, ◌++◌, length, take, slice_get, Some, None, Result, Ok, Err}
use Rattle.gfx_types.specs.declared.names.Fault.{Fault}
use Rattle.gfx_model.specs.Limits.{max_log}
use Rattle.gfx_model.specs.Events.{Event}
use Rattle.gfx_model.specs.Views.{View}
use Rattle.gfx_model.specs.Checks.{first_broken}
use Rattle.gfx_model.specs.Table.{checks_of}
use Rattle.gfx_model.specs.History.{fault}
use Rattle.gfx_script_model.specs.Runs.{Entry, history, log_length, call_length}
use Rattle.gfx_tracker.specs.declared.outcome.ApplyFault.{ApplyFault}
use Rattle.gfx_tracker.specs.declared.outcome.ApplyFault.TheVariants as apply
use Rattle.gfx_tracker.specs.Taking.{after_event}
use Rattle.gfx_capture.specs.declared.answer.Receipt.{Receipt}
use Rattle.gfx_capture.specs.declared.answer.AppendFault.{AppendFault}
use Rattle.gfx_capture.specs.declared.answer.AppendFault.TheVariants as append
use Rattle.gfx_capture.specs.declared.answer.BlockFault.{BlockFault}
use Rattle.gfx_capture.specs.declared.answer.BlockFault.TheVariants as block
use Rattle.gfx_capture.specs.Entry.{entry, entries_under}
use Rattle.gfx_capture.specs.ThreadBuffer.{IsPutOf}
use Rattle.gfx_capture.specs.Log.{IsSound}

-- the first n events are under the thread at the end, and nothing else changed
abbrev pub Stand : List Entry → ℕ → List Event → ℕ → List Entry → Type 0
Stand before thread events n after = after ≡ before ++ entries_under thread (take n events)

-- the block of the event fits behind the log, and the event has this fault there
pub record IsFaulty (m thread : ℕ) (log : List Entry) (event : Event) (f : Fault) : Type 0 where
  pub fits : log_length m log + call_length m thread event ≤ max_log
  pub fault_is : fault (history log) event ≡ Some f

-- the log has this length in bytes, and the event's block, of the length that is needed, doesn't fit
pub record IsFull (m thread : ℕ) (log : List Entry) (event : Event) (l wanted : ℕ) : Type 0 where
  pub length_is : l ≡ log_length m log
  pub wanted_is : wanted ≡ call_length m thread event
  pub over : max_log < l + wanted

-- P holds of the event at this place
abbrev pub IsAt : List Event → ℕ → (Event → Type 0) → Type 0
IsAt events place P = (event : Event) × (slice_get events place ≡ Some event) × P event

-- what appending events in order answers: all stand, or the first `done` do, and why the next one does not
abbrev pub Answers : ℕ → List Entry → ℕ → List Event → Result Receipt AppendFault → List Entry → Type 0
Answers m before thread events (Ok r) after =
    (r.from ≡ length before) × (r.count ≡ length events) × Stand before thread events (length events) after
Answers m before thread events (Err (append.Refused f at done)) after =
    (done < length events) × (at ≡ length before + done) × Stand before thread events done after
    × IsAt events done (λ event. IsFaulty m thread after event f)
Answers m before thread events (Err (append.LogFull l wanted done)) after =
    (done < length events) × Stand before thread events done after
    × IsAt events done (λ event. IsFull m thread after event l wanted)
Answers m before thread events (Err (append.WantMemory done)) after =
    (done < length events) × Stand before thread events done after

-- and what stands then is a log
pub record Appends (m : ℕ) (before : List Entry) (thread : ℕ) (events : List Event)
    (answer : Result Receipt AppendFault) (after : List Entry) : Type 0 where
  pub answers : Answers m before thread events answer after
  pub sound : IsSound m after

-- ---- one block

-- what appending one event answers
abbrev pub AnswersOne : ℕ → List Entry → ℕ → Event → Result (Unit {0}) BlockFault → List Entry → Type 0
AnswersOne m before thread event (Ok _) after = after ≡ before ++ entry thread event ∷ []
AnswersOne m before thread event (Err (block.Refused f)) after = (after ≡ before) × IsFaulty m thread before event f
AnswersOne m before thread event (Err (block.LogFull l wanted)) after = (after ≡ before) × IsFull m thread before event l wanted
AnswersOne m before thread event (Err block.WantMemory) after = after ≡ before

-- what is answered where an append ends `done` events behind the entry at `from`
abbrev pub ended : BlockFault → ℕ → ℕ → AppendFault
ended (block.Refused f) from done = append.Refused f (from + done) done
ended (block.LogFull l wanted) from done = append.LogFull l wanted done
ended block.WantMemory from done = append.WantMemory done

-- why a block is not appended, where a tracker doesn't take its effect
abbrev pub refusal_of : ApplyFault → BlockFault
refusal_of (apply.Rule f) = block.Refused f
refusal_of apply.WantMemory = block.WantMemory

-- what taking the effect of a block answers, by the answers of the tracker before and after
abbrev pub Took : ℕ → List ℕ → View → Result (Unit {0}) ApplyFault → View → Type 0
Took m bytes v (Ok _) w = (e : Event) → IsPutOf m e bytes → (first_broken v (checks_of e) ≡ None) × (w ≡ after_event v e)
Took m bytes v (Err (apply.Rule f)) w = (w ≡ v) × ((e : Event) → IsPutOf m e bytes → first_broken v (checks_of e) ≡ Some f)
Took m bytes v (Err apply.WantMemory) w = w ≡ v
