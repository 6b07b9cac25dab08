-- The commands of a buffer.
use Rattle.std.specs.Prelude.{◌≡◌, ℕ, zero, suc, ◌≤◌, List, [], ◌∷◌, length, map, sum_by, slice_range, refl}
use Rattle.std.specs.Coded.{Coded, code_by, coded×, coded_ℕ, coded_list}
use Rattle.gfx_model.specs.Events.{Event}
use Rattle.gfx_model.specs.Spelling.{spelling}
use Rattle.gfx_commands.specs.declared.commands.Command.{Command}
use Rattle.gfx_commands.specs.Recorded.{event_with, AreFields}

-- a command: the id of its call, and its spelled fields
pub record Spelled : Type 0 where
  pub call_id : ℕ
  pub params : List ℕ

-- how the logic stores it, as its fields in a row
abbrev pub spelled_code : Coded Spelled
spelled_code =
    code_by (ℕ × List ℕ) (coded× coded_ℕ (coded_list coded_ℕ)) (λ s. (s.call_id, s.params)) (λ p. record { call_id = p.0; params = p.1 }) (λ _. refl)

-- the fields of all commands, cut where each command ends
abbrev pub cut : ℕ → List ℕ → List Command → List Spelled
cut start fields [] = []
cut start fields (c ∷ commands) = record { call_id = c.call_id; params = slice_range fields start c.end } ∷ cut c.end fields commands

-- no command ends before it starts, and the last one ends where so many bytes end
abbrev pub IsCut : ℕ → List Command → ℕ → Type 0
IsCut start [] count = start ≡ count
IsCut start (c ∷ commands) count = (start ≤ c.end) × IsCut c.end commands count

-- where the fields of the command at a place start
abbrev pub start_at : ℕ → List Command → ℕ → ℕ
start_at start commands zero = start
start_at start [] (suc k) = start
start_at start (c ∷ commands) (suc k) = start_at c.end commands k

-- the commands as they are recorded
abbrev pub events_in : List Spelled → List Event
events_in = map (λ s. event_with s.call_id s.params)

-- the fields are those of a command
abbrev pub IsSpelled : Spelled → Type 0
IsSpelled s = AreFields s.call_id s.params

-- the bytes of their fields
abbrev pub bytes_of : List Event → ℕ
bytes_of events = sum_by (λ e. length (spelling 1 e)) events
