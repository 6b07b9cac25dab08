-- What has been read, as the definitions have it.
use Rattle.std.specs.Prelude.{◌≡◌, ℕ, ◌==◌, Bool, List, [], ◌∷◌, ◌++◌, map, length, Option, Some, Result, Ok, Err}
use Rattle.std.specs.List.{list_any}
use Rattle.gfx_script_model.specs.Statements.{Form}
use Rattle.gfx_script_model.specs.Statements.Form.{states}
use Rattle.gfx_grammar.specs.Reading.{◌>>=◌}
use Rattle.gfx_text_grammar.specs.StatementReading.{read_statement}
use Rattle.gfx_script_model.specs.Scripts as script
use Rattle.gfx_script_model.specs.Scripts.{in_order, Parsed, Parses, parses, fails}
use Rattle.gfx_script.specs.Kinds.{kind_of}
use Rattle.gfx_script.specs.Line.{line_of, part_of, phases_of}
use Rattle.gfx_script.specs.Staged.{thread_of_stage}
use Rattle.gfx_script.specs.declared.line.Line.{Line}
use Rattle.gfx_script.specs.declared.numbering.Place.{Place}
use Rattle.gfx_script.specs.declared.script.Part.{Part}
use Rattle.gfx_script.specs.declared.script.Script.{Script}
use Rattle.gfx_script.specs.declared.fault.ScriptFault.{ScriptFault}
use Rattle.gfx_script.specs.declared.fault.ScriptFault.TheVariants.{Bad, WantMemory}
use Rattle.gfx_script.specs.declared.reading.Stage.{Stage}
use Rattle.gfx_script.specs.declared.reading.Stage.TheVariants.{NoPhase, InThread}
use Rattle.gfx_script.specs.declared.reading.Reading.{Reading}

-- the lines of the thread that is read
abbrev pub open_part : Stage → List Line → List script.Part
open_part (InThread thread) lines = record { thread = thread; lines = map line_of lines } ∷ []
open_part _ lines = []

-- the phase that is read
abbrev pub open_phase : Stage → List Part → List Line → List (List script.Part)
open_phase NoPhase parts lines = []
open_phase stage parts lines = (map part_of parts ++ open_part stage lines) ∷ []

-- the phases so far, in order
abbrev pub read_phases : Reading → List (List script.Part)
read_phases r = phases_of r.phases.items ++ open_phase r.stage r.parts.items r.lines.items

-- what has been read, with the newest first
abbrev pub reading_of : Reading → script.Reading
reading_of r = record { minor = r.minor; phases = in_order (read_phases r); names = r.names }

-- the form of the tokens as a statement
abbrev pub stated_form : ℕ → List (List ℕ) → Option Form
stated_form m tokens = read_statement m tokens >>= λ e. Some (states e)

-- the thread was in the phase that is read
abbrev pub thread_stood : ℕ → Reading → Bool
thread_stood thread r = list_any (λ p. p.thread == thread) (map part_of r.parts.items ++ open_part r.stage r.lines.items)

-- the place of the next line
pub record IsAt (r : Reading) (at : Place) : Type 0 where
  pub minor : at.minor ≡ r.minor
  pub phase : at.phase ≡ length (reading_of r).phases
  pub thread : at.thread ≡ thread_of_stage r.stage

-- the version and the names stay
pub record SameNames (before after : Reading) : Type 0 where
  pub minor : after.minor ≡ before.minor
  pub names : after.names ≡ before.names

-- the thread that is read is with the others, and has no more lines
pub record EndsPart (before after : Reading) : Type 0 where
  pub same : SameNames before after
  pub stage : after.stage ≡ before.stage
  pub phases : after.phases.items ≡ before.phases.items
  pub parts : map part_of after.parts.items ≡ map part_of before.parts.items ++ open_part before.stage before.lines.items
  pub lines : after.lines.items ≡ []

-- the phase that is read is with the others, and has no more threads
pub record EndsPhase (before after : Reading) : Type 0 where
  pub same : SameNames before after
  pub stage : after.stage ≡ before.stage
  pub phases : phases_of after.phases.items ≡ read_phases before
  pub parts : after.parts.items ≡ []
  pub lines : after.lines.items ≡ []

-- a text parses to this and to nothing else
abbrev pub ParsesAs : List ℕ → Parsed → Type 0
ParsesAs text parsed = Parses text parsed × ((other : Parsed) → Parses text other → other ≡ parsed)

-- the script that a text parses to, or its first line with a fault; out of memory says nothing of the text
abbrev pub IsParsed : List ℕ → Result Script ScriptFault → Type 0
IsParsed text (Ok script) = ParsesAs text (parses script.minor (phases_of script.phases))
IsParsed text (Err (Bad line kind)) = ParsesAs text (fails line (kind_of kind))
IsParsed text (Err WantMemory) = Unit {0}
