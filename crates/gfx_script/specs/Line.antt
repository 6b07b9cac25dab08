-- The lines of a script as the definitions have them.
use Rattle.std.specs.Prelude.{List, map}
use Rattle.gfx_model.specs.Events.{Event}
use Rattle.gfx_script_model.specs.Scripts as script
use Rattle.gfx_script.specs.Kept.{event_in}
use Rattle.gfx_script.specs.declared.kept.Kept.{Kept}
use Rattle.gfx_script.specs.declared.line.Line.{Line}
use Rattle.gfx_script.specs.declared.script.Part.{Part}
use Rattle.gfx_script.specs.declared.script.Phase.{Phase}

-- what is kept
abbrev pub event_of_kept : Kept → Event
event_of_kept k = event_in k.minor k.call k.fields.items

-- the call or write of a line, its ids being numbers of names
abbrev pub event_of_line : Line → Event
event_of_line l = event_of_kept l.call

-- a line
abbrev pub line_of : Line → script.Line
line_of l = record { number = l.number; event = event_of_line l }

-- the lines of a thread
abbrev pub part_of : Part → script.Part
part_of p = record { thread = p.thread; lines = map line_of p.lines }

-- the parts of a phase
abbrev pub phase_of : Phase → List script.Part
phase_of p = map part_of p.threads

-- the phases of a script
abbrev pub phases_of : List Phase → List (List script.Part)
phases_of ps = map phase_of ps
