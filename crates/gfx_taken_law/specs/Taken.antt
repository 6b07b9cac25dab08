-- Laws of ids that are taken.
use Rattle.std.specs.Prelude.{◌≡◌, ℕ, true, List, Some, slice_get}
use Rattle.gfx_types.specs.declared.names.Fault.TheVariants.{IdTaken}
use Rattle.gfx_model.specs.Events.{Event}
use Rattle.gfx_model.specs.Checks.{is_among, is_distinct}
use Rattle.gfx_model.specs.History.{fault}
use Rattle.gfx_script_model.specs.Ids.{defines_of}
use Rattle.gfx_script_model.specs.Runs.{Entry, history}

-- an event creates the same ids in every minor version
abbrev pub CreatesAlike : Type 0
CreatesAlike = (m n : ℕ) (e : Event) → defines_of m e ≡ defines_of n e

-- an entry of the log creates one of the ids that the event creates
pub record TakenBy (m : ℕ) (log : List Entry) (event : Event) : Type 0 where
  pub id : ℕ
  pub among : is_among id (defines_of m event) ≡ true
  pub place : ℕ
  pub entry : Entry
  pub stands : slice_get log place ≡ Some entry
  pub made : is_among id (defines_of m entry.event) ≡ true

-- where the ids that an event creates differ, and one is taken after a log, an entry of the log created it
abbrev pub TakenIsInLog : Type 0
TakenIsInLog = (m : ℕ) (log : List Entry) (event : Event) → is_distinct (defines_of m event) ≡ true →
    fault (history log) event ≡ Some IdTaken → TakenBy m log event
