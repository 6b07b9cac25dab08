-- Ids in place of the numbers of names.
use Rattle.std.specs.Prelude.{ℕ, List, map, slice_index}
use Rattle.gfx_model.specs.Events.{Event}
use Rattle.gfx_script_model.specs.Ids.{map_ids}
use Rattle.gfx_script_model.specs.Runs.{calls_of}
use Rattle.gfx_script.specs.Line.{line_of, event_of_line}
use Rattle.gfx_script.specs.declared.line.Line.{Line}

-- the id of a name in a table: 0 for none, and behind its end
abbrev pub id_in : List ℕ → ℕ → ℕ
id_in table name = slice_index table name

-- the call of a line
abbrev pub call_in : List ℕ → Line → Event
call_in table line = map_ids (id_in table) (event_of_line line)

-- the calls of lines
abbrev pub calls_in : List ℕ → List Line → List Event
calls_in table lines = calls_of (id_in table) (map line_of lines)
