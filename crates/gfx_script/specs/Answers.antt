-- What reading answers: a line, the names of a line, a script.
use Rattle.std.specs.Prelude.{◌≡◌, ◌≤◌, ℕ, true, false, List, map, length, take, Some, Result, Ok, Err}
use Rattle.gfx_script_model.specs.Scripts.{Outcome, reads, refuses, Reading, Defined, number_of, define, name_taken}
use Rattle.gfx_script.specs.Kinds.{kind_of}
use Rattle.gfx_script.specs.Numbered.{clashes}
use Rattle.gfx_script.specs.declared.fault.ScriptFault.{ScriptFault}
use Rattle.gfx_script.specs.declared.fault.ScriptFault.TheVariants as script_fault
use Rattle.gfx_script.specs.declared.line_fault.LineFault.{LineFault}
use Rattle.gfx_script.specs.declared.line_fault.LineFault.TheVariants.{Refused, WantMemory}

-- a line is refused for this kind, or there is no memory
abbrev pub IsRefusal : Outcome → LineFault → Type 0
IsRefusal outcome (Refused kind) = outcome ≡ refuses (kind_of kind)
IsRefusal outcome WantMemory = Unit {0}

-- what a line gives, and what was read then
abbrev pub GivesOutcome : {X : Type 0} → Outcome → Reading → Result X LineFault → Type 0
GivesOutcome outcome after (Ok _) = outcome ≡ reads after
GivesOutcome outcome after (Err fault) = IsRefusal outcome fault

-- the first of these names are defined, maybe none or all
abbrev pub DefinesSome : (phase thread : ℕ) → List Defined → List (List ℕ) → List Defined → Type 0
DefinesSome phase thread before texts after = (n : ℕ) × (n ≤ length texts) × (after ≡ define phase thread before (take n texts))

-- the names of a line are defined, with these numbers, or one of them is taken; after a fault the first of them are
abbrev pub DefinesAll : (phase thread : ℕ) → List Defined → List (List ℕ) → Result (List ℕ) LineFault → List Defined → Type 0
DefinesAll phase thread before texts (Ok numbers) after =
    (clashes before texts ≡ false) × (after ≡ define phase thread before texts) × (map (number_of (λ d. true) after) texts ≡ map Some numbers)
DefinesAll phase thread before texts (Err (Refused kind)) after =
    (kind_of kind ≡ name_taken) × (clashes before texts ≡ true) × DefinesSome phase thread before texts after
DefinesAll phase thread before texts (Err WantMemory) after = DefinesSome phase thread before texts after

-- the fault of a text whose line with this number has it
abbrev pub fault_at : ℕ → LineFault → ScriptFault
fault_at line (Refused kind) = script_fault.Bad line kind
fault_at line WantMemory = script_fault.WantMemory
