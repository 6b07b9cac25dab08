-- The phases of a script as they are run.
use Rattle.std.specs.Prelude.{Bool, if◌then◌else◌, List}
use Rattle.gfx_script_model.specs.Scripts.{Part}
use Rattle.gfx_shadow.specs.Gathered.{gathered_phases}

-- phases, with the writes of each thread gathered where that is asked for
abbrev pub shown_phases : Bool → List (List Part) → List (List Part)
shown_phases gathers phases = if gathers then gathered_phases phases else phases
