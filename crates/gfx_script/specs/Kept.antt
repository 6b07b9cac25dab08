-- The event of fields that are kept.
use Rattle.std.specs.Prelude.{ℕ, ◌==◌, ◌||◌, Bool, if◌then◌else◌, List, Option, is_some, unwrap_or}
use Rattle.gfx_model.specs.Events.{Event}
use Rattle.gfx_model.specs.Events.Event.{BeginSection}
use Rattle.gfx_grammar.specs.Rows.{read_call, read_meta}

-- there are two minor versions
abbrev pub is_version : ℕ → Bool
is_version minor = minor == 1 || minor == 2

-- the call of this number whose fields these are, or with 0 the write
abbrev pub kept_event : (minor call : ℕ) → List ℕ → Option Event
kept_event minor call fields = if call == 0 then read_meta 1 2 fields else read_call minor call fields

-- the fields are those of an event
abbrev pub keeps_event : (minor call : ℕ) → List ℕ → Bool
keeps_event minor call fields = is_some (kept_event minor call fields)

-- the event of fields that are those of one
abbrev pub event_in : (minor call : ℕ) → List ℕ → Event
event_in minor call fields = unwrap_or (kept_event minor call fields) (BeginSection 0)
