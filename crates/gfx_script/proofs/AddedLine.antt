-- A statement added to what has been read.
use Rattle.std.proofs.Common.{◌≡◌, ℕ, ◌+◌, Bool, true, false, not, cond, List, ◌∷◌, map, length, Option, Some, None, refl, sym, ap, ◌∙◌}
use Rattle.std.specs.List.{list_all}
use Rattle.gfx_model.specs.Events.{Event}
use Rattle.gfx_script_model.specs.Ids.{uses_of, defines_of, map_ids}
use Rattle.gfx_script_model.specs.Names.{name_of}
use Rattle.gfx_script_model.specs.Scripts.{Kind, Reading, Outcome, reads, refuses, name_unknown, name_taken, Part, may_use, is_known, without_0, renumber, add_line}
use Rattle.gfx_script.specs.Numbered.{clashes}
use Rattle.gfx_script.specs.Stated.{name_fault, names_after}
use Rattle.gfx_script.specs.declared.numbering.Place.{Place}

-- what a statement gives by the fault of its names
abbrev pub outcome_by : Option Kind → Reading → Outcome
outcome_by (Some k) r = refuses k
outcome_by None r = reads r

-- the reading with the line of event e
abbrev pub with_line : Place → Event → Reading → Part → List Part → List (List Part) → Reading
with_line at e r part parts phases = record {
  minor = r.minor;
  phases = (record part { lines = record { number = at.number; event = map_ids (renumber (names_after at r.names e)) e } ∷ part.lines } ∷ parts) ∷ phases;
  names = names_after at r.names e;
}

-- the place of a line in a part
abbrev here : ℕ → Reading → Part → List (List Part) → Place
here number r part phases = record { number = number; minor = r.minor; phase = length phases + 1; thread = part.thread }

by_faults : (a c : Bool) (next : Reading)
    → cond a (refuses name_unknown) (cond c (refuses name_taken) (reads next)) ≡ outcome_by (cond a (Some name_unknown) (cond c (Some name_taken) None)) next
by_faults true c next = refl
by_faults false true next = refl
by_faults false false next = refl

added_here : (number : ℕ) (e : Event) (r : Reading) (part : Part) (parts : List Part) (phases : List (List Part))
    → add_line number e r part parts phases ≡ outcome_by (name_fault (here number r part phases) r.names e) (with_line (here number r part phases) e r part parts phases)
added_here number e r part parts phases =
    by_faults (not (list_all (is_known r.names (may_use (length phases + 1) part.thread)) (map name_of (without_0 (uses_of r.minor e)))))
    (clashes r.names (map name_of (defines_of r.minor e))) (with_line (here number r part phases) e r part parts phases)

-- a line is added where its names have no fault
pub added : (at : Place) (e : Event) (r : Reading) (part : Part) (parts : List Part) (phases : List (List Part))
    → at.minor ≡ r.minor → at.phase ≡ length phases + 1 → at.thread ≡ part.thread
    → add_line at.number e r part parts phases ≡ outcome_by (name_fault at r.names e) (with_line at e r part parts phases)
added at e r part parts phases minor phase thread =
    let same : here at.number r part phases ≡ at = (λ i. record { number = at.number; minor = sym minor i; phase = sym phase i; thread = sym thread i }) in
    added_here at.number e r part parts phases ∙ ap (λ (z : Place). outcome_by (name_fault z r.names e) (with_line z e r part parts phases)) same
