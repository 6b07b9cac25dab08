-- What appending answers, and what is in the log then.
use Rattle.std.specs.Prelude.{◌≡◌, ◌<◌, ◌⊎◌, ℕ, ◌+◌, ◌==◌, if◌then◌else◌, List, [], ◌∷◌, ◌++◌, length, Option, Some, None}
use Rattle.gfx_model.specs.Limits.{max_log}
use Rattle.gfx_model.specs.Events.{Event}
use Rattle.gfx_grammar.specs.Rows.{read_event}
use Rattle.gfx_script_model.specs.Runs.{Entry, log_length, call_length}
use Rattle.gfx_capture.specs.Entry.{entry}
use Rattle.gfx_capture.specs.Append.{IsFaulty}
use Rattle.gfx_log_c.specs.declared.answer.Answer.{Answer}
use Rattle.gfx_log_c.specs.declared.answer.Answer.TheVariants as answer

-- the event that the bytes spell: a call for type 4, a metadata block for type 3
abbrev pub read_fields : (minor kind number : ℕ) → List ℕ → Option Event
read_fields m kind n bytes = if kind == 4 then read_event m 4 n bytes else if kind == 3 then read_event m 3 n bytes else None

-- the most bytes of fields
abbrev pub max_fields : ℕ
max_fields = 134217716

-- what appending an event answers
abbrev pub AnsweredBy : ℕ → List Entry → ℕ → Event → Answer → List Entry → Type 0
AnsweredBy m before thread e answer.Accepted after = after ≡ before ++ entry thread e ∷ []
AnsweredBy m before thread e answer.BadFields after = ⊥
AnsweredBy m before thread e (answer.Refused f) after = (after ≡ before) × IsFaulty m thread before e f
AnsweredBy m before thread e answer.Full after = (after ≡ before) × (max_log < log_length m before + call_length m thread e)
AnsweredBy m before thread e answer.WantMemory after = after ≡ before

-- what appending fields answers, where `read` is the event that they spell: accepted exactly if the log grew by just that event
abbrev pub Answered : ℕ → List Entry → ℕ → List ℕ → Option Event → Answer → List Entry → Type 0
Answered m before thread fields read answer.Accepted after = (e : Event) × (read ≡ Some e) × (after ≡ before ++ entry thread e ∷ [])
Answered m before thread fields read answer.BadFields after = (after ≡ before) × ((read ≡ None) ⊎ (max_fields < length fields))
Answered m before thread fields read (answer.Refused f) after = (after ≡ before) × ((e : Event) × (read ≡ Some e) × IsFaulty m thread before e f)
Answered m before thread fields read answer.Full after = (after ≡ before) × ((e : Event) × (read ≡ Some e) × (max_log < log_length m before + call_length m thread e))
Answered m before thread fields read answer.WantMemory after = after ≡ before
