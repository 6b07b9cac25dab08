-- The script language: the version, phases, threads and lines of a text, or the first line with a fault.
use Rattle.std.specs.Prelude.{◌≡◌, ◌⊎◌, ℕ, ◌+◌, min, ◌==◌, nat_lt, nat_le, Bool, true, false, not, ◌&&◌, ◌||◌, if◌then◌else◌, List, [], ◌∷◌, ◌++◌, map, filter, reverse, length, Option, Some, None, is_some, unwrap_or, codes}
use Rattle.std.specs.List.{list_any, list_all, position_from}
use Rattle.gfx_model.specs.Limits.{max_line, max_lines, max_script, max_phases}
use Rattle.gfx_model.specs.Events.{Event}
use Rattle.gfx_model.specs.Checks.{same_list}
use Rattle.gfx_script_model.specs.Ids.{uses_of, defines_of, map_ids}
use Rattle.gfx_script_model.specs.Names.{name_of}
use Rattle.gfx_script_model.specs.Statements.{Form, IsForm, lines_of, tokens_of, is_empty}
use Rattle.gfx_script_model.specs.Statements.Form.{skips, sets_version, begins_phase, begins_thread, states}

-- ---- what has been read

-- why a line is refused, in the order of checking
pub data Kind : Type 0 where
  bad_byte line_too_long too_many bad_line structure name_unknown name_taken : Kind

-- a line, its ids being numbers of names, from 1 on in the order in which the script defines them
pub record Line : Type 0 where
  pub number : ℕ
  pub event : Event

-- the lines of a thread in a phase
pub record Part : Type 0 where
  pub thread : ℕ
  pub lines : List Line

-- a name, and where it was defined
pub record Defined : Type 0 where
  pub name : List ℕ
  pub phase : ℕ
  pub thread : ℕ

-- The version, the phases so far, their parts and lines, each list with the newest first, and the names, the first one first.
pub record Reading : Type 0 where
  pub minor : ℕ
  pub phases : List (List Part)
  pub names : List Defined

-- what is read with one more line, or why it is refused
pub data Outcome : Type 0 where
  reads : Reading → Outcome
  refuses : Kind → Outcome

-- ---- names

-- the number of a name, from 1 on, where the test allows its definition
abbrev pub number_of : (Defined → Bool) → List Defined → List ℕ → Option ℕ
number_of allowed defined text = position_from (λ d. same_list d.name text && allowed d) 1 defined

-- a line may use what its thread defined earlier, and what an earlier phase defined
abbrev pub may_use : ℕ → ℕ → Defined → Bool
may_use phase thread d = nat_lt d.phase phase || d.thread == thread

-- the name is defined where it may be used
abbrev pub is_known : List Defined → (Defined → Bool) → List ℕ → Bool
is_known defined allowed text = is_some (number_of allowed defined text)

-- a name occurs twice
abbrev pub repeats : List (List ℕ) → Bool
repeats [] = false
repeats (t ∷ ts) = list_any (same_list t) ts || repeats ts

-- the codes of names
abbrev pub without_0 : List ℕ → List ℕ
without_0 ks = filter (λ k. not (k == 0)) ks

-- the names after a line that defines these
abbrev pub define : ℕ → ℕ → List Defined → List (List ℕ) → List Defined
define phase thread defined texts = defined ++ map (λ t. record { name = t; phase = phase; thread = thread }) texts

-- the number of the name whose code this is
abbrev pub renumber : List Defined → ℕ → ℕ
renumber defined k = if k == 0 then 0 else unwrap_or (number_of (λ d. true) defined (name_of k)) 0

-- ---- one line

-- the thread was in this phase
abbrev pub has_thread : ℕ → List Part → Bool
has_thread n parts = list_any (λ p. p.thread == n) parts

-- nothing but skipped lines was read
abbrev pub is_at_start : Reading → Bool
is_at_start r = r.minor == 1 && is_empty r.phases

-- the version is first or not at all
abbrev pub set_version : Reading → Outcome
set_version r = if is_at_start r then reads (record r { minor = 2 }) else refuses structure

-- a thread occurs once in a phase
abbrev pub begin_thread : ℕ → Reading → List (List Part) → Outcome
begin_thread n r [] = refuses structure
begin_thread n r (parts ∷ phases) =
    if has_thread n parts then refuses structure
    else reads (record r { phases = (record { thread = n; lines = [] } ∷ parts) ∷ phases })

-- a statement of a thread in a phase: its names are known, and what it defines is new
abbrev pub add_line : ℕ → Event → Reading → Part → List Part → List (List Part) → Outcome
add_line number e r part parts phases =
    let at = length phases + 1 in
    let texts = map name_of (defines_of r.minor e) in
    let defined = define at part.thread r.names texts in
    let line : Line = record { number = number; event = map_ids (renumber defined) e } in
    let used = map name_of (without_0 (uses_of r.minor e)) in
    if not (list_all (is_known r.names (may_use at part.thread)) used) then refuses name_unknown
    else (if list_any (is_known r.names (λ d. true)) texts || repeats texts then refuses name_taken
    else reads (record {
      minor = r.minor;
      phases = (record part { lines = line ∷ part.lines } ∷ parts) ∷ phases;
      names = defined;
    }))

-- a statement is under a thread
abbrev pub add_statement : ℕ → Event → Reading → List (List Part) → Outcome
add_statement number e r [] = refuses structure
add_statement number e r ([] ∷ phases) = refuses structure
add_statement number e r ((part ∷ parts) ∷ phases) = add_line number e r part parts phases

-- what a line of this form gives
abbrev pub outcome_of : ℕ → Reading → Form → Outcome
outcome_of number r skips = reads r
outcome_of number r sets_version = set_version r
outcome_of number r begins_phase = reads (record r { phases = [] ∷ r.phases })
outcome_of number r (begins_thread n) = begin_thread n r r.phases
outcome_of number r (states e) = add_statement number e r r.phases

-- a printable byte
abbrev pub is_printable : ℕ → Bool
is_printable c = nat_le 32 c && nat_le c 126

-- the line begins a phase
abbrev pub is_phase : List (List ℕ) → Bool
is_phase (t ∷ []) = same_list t (codes "phase")
is_phase _ = false

-- the faults that come before a line's form is looked at; `through` is the length of the text through the line
abbrev pub early_fault : ℕ → ℕ → Reading → List ℕ → Option Kind
early_fault number through r line =
    if not (list_all is_printable line) then Some bad_byte
    else (if nat_lt max_line (length line) then Some line_too_long
    else (if nat_lt max_lines number || nat_lt max_script through || is_phase (tokens_of line) && nat_le max_phases (length r.phases)
    then Some too_many
    else None))

-- a line gives its early fault; without one what its form gives, and bad_line where it has none
abbrev pub IsLateOutcome : ℕ → Reading → List ℕ → Option Kind → Outcome → Type 0
IsLateOutcome number r line (Some k) outcome = outcome ≡ refuses k
IsLateOutcome number r line None outcome =
    ((f : Form) × IsForm r.minor (tokens_of line) f × (outcome ≡ outcome_of number r f))
    ⊎ (((f : Form) → IsForm r.minor (tokens_of line) f → ⊥) × (outcome ≡ refuses bad_line))

-- what a line gives
abbrev pub IsOutcome : ℕ → ℕ → Reading → List ℕ → Outcome → Type 0
IsOutcome number through r line outcome = IsLateOutcome number r line (early_fault number through r line) outcome

-- ---- a text

-- first lines first
abbrev pub part_in_order : Part → Part
part_in_order p = record p { lines = reverse p.lines }

-- first threads first
abbrev pub phase_in_order : List Part → List Part
phase_in_order parts = reverse (map part_in_order parts)

-- first phases first
abbrev pub in_order : List (List Part) → List (List Part)
in_order phases = reverse (map phase_in_order phases)

-- a script, or the first line with a fault
pub data Parsed : Type 0 where
  parses : (minor : ℕ) (phases : List (List Part)) → Parsed
  fails : (line : ℕ) (kind : Kind) → Parsed

-- the length of a text through its next line, with the line feed where the text has one
abbrev pub through_line : ℕ → ℕ → List ℕ → ℕ
through_line total before line = min total (before + length line + 1)

-- the lines of a text of so many bytes, from a number on, after what has been read, give this
abbrev pub ParsesFrom : ℕ → ℕ → ℕ → Reading → List (List ℕ) → Parsed → Type 0
ParsesFrom total number before r [] parsed = parsed ≡ parses r.minor (in_order r.phases)
ParsesFrom total number before r (l ∷ ls) parsed =
    (outcome : Outcome) × IsOutcome number (through_line total before l) r l outcome
    × (elim outcome [
      | reads next ↦ ParsesFrom total (number + 1) (through_line total before l) next ls parsed
      | refuses kind ↦ parsed ≡ fails number kind
    ])

-- nothing has been read
abbrev pub at_first : Reading
at_first = record { minor = 1; phases = []; names = [] }

-- what a text parses to
abbrev pub Parses : List ℕ → Parsed → Type 0
Parses text parsed = ParsesFrom (length text) 1 0 at_first (lines_of text) parsed
