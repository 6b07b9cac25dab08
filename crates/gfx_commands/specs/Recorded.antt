-- What a recorded command says.
use Rattle.std.specs.Prelude.{◌≡◌, ℕ, List, Some, unwrap_or}
use Rattle.gfx_model.specs.Events.{Event}
use Rattle.gfx_model.specs.Events.Event.{EndSection}
use Rattle.gfx_model.specs.Spelling.{spelling, id_of}
use Rattle.gfx_grammar.specs.Rows.{read_call}
use Rattle.gfx_commands.specs.declared.recorded.Recorded.{Recorded}

-- the command of this id with these fields: what is read of them, which is something always
unfoldable pub event_with : ℕ → List ℕ → Event
event_with id params = unwrap_or (read_call 1 id params) (EndSection 0)

-- the fields are those of a command of this number, exactly
pub record AreFields (id : ℕ) (params : List ℕ) : Type 0 where
  pub number : id ≡ id_of (event_with id params)
  pub read : read_call 1 id params ≡ Some (event_with id params)
  pub spelled : params ≡ spelling 1 (event_with id params)

-- the command that is recorded
abbrev pub event_in : Recorded → Event
event_in r = event_with r.call_id r.params.now

-- its fields are those of a command
abbrev pub IsRecorded : Recorded → Type 0
IsRecorded r = AreFields r.call_id r.params.now
