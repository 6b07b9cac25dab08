-- A statement with numbers of names as its ids, and the line that it gives.
use Rattle.std.specs.Prelude.{◌≡◌, ℕ, not, if◌then◌else◌, List, map, Option, Some, None, Result, Ok, Err, IsTrue}
use Rattle.std.specs.List.{list_all}
use Rattle.gfx_model.specs.Events.{Event}
use Rattle.gfx_model.specs.Fields.{named_fields}
use Rattle.gfx_model.specs.Spelling.{IsOfVersion}
use Rattle.gfx_script_model.specs.FieldText.{FieldsFit}
use Rattle.gfx_script_model.specs.Ids.{uses_of, defines_of, map_ids}
use Rattle.gfx_script_model.specs.Names.{name_of, named_ids}
use Rattle.gfx_script_model.specs.Scripts.{Kind, Defined, name_unknown, name_taken, may_use, is_known, without_0, define, renumber}
use Rattle.gfx_script_model.specs.Statements.{may_be_written}
use Rattle.gfx_script.specs.Kinds.{kind_of}
use Rattle.gfx_script.specs.Line.{line_of}
use Rattle.gfx_script.specs.Numbered.{clashes}
use Rattle.gfx_script.specs.Resolved.{number_for}
use Rattle.gfx_script.specs.declared.line.Line.{Line}
use Rattle.gfx_script.specs.declared.line_fault.LineFault.{LineFault}
use Rattle.gfx_script.specs.declared.line_fault.LineFault.TheVariants.{Refused, WantMemory}
use Rattle.gfx_script.specs.declared.numbering.Place.{Place}

-- the statement of event e at a place: what is seen of it has numbers for its names, and these texts are what it defines
pub record Stated (at : Place) (names : List Defined) (texts : List (List ℕ)) (seen e : Event) : Type 0 where
  pub written : IsTrue (may_be_written e)
  pub fits : FieldsFit named_ids (named_fields at.minor e)
  pub version : IsOfVersion at.minor e
  pub defined : texts ≡ map name_of (defines_of at.minor e)
  pub numbered : seen ≡ map_ids (number_for at.phase at.thread names) e

-- why the names of a statement aren't taken, in the order of checking
abbrev pub name_fault : Place → List Defined → Event → Option Kind
name_fault at names e =
    if not (list_all (is_known names (may_use at.phase at.thread)) (map name_of (without_0 (uses_of at.minor e)))) then Some name_unknown
    else (if clashes names (map name_of (defines_of at.minor e)) then Some name_taken else None)

-- the names after the statement
abbrev pub names_after : Place → List Defined → Event → List Defined
names_after at names e = define at.phase at.thread names (map name_of (defines_of at.minor e))

-- the line of a statement and the names then, or why it is refused
abbrev pub NumbersLine : Place → List Defined → Event → Result Line LineFault → List Defined → Type 0
NumbersLine at before e (Ok line) after =
    (name_fault at before e ≡ None) × (after ≡ names_after at before e)
    × (line_of line ≡ record { number = at.number; event = map_ids (renumber (names_after at before e)) e })
NumbersLine at before e (Err (Refused kind)) after = name_fault at before e ≡ Some (kind_of kind)
NumbersLine at before e (Err WantMemory) after = Unit {0}
