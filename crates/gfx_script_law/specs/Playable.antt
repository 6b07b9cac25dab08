-- What is known of a script that a text parses to.
use Rattle.std.specs.Prelude.{◌≡◌, ◌⊎◌, ℕ, zero, suc, ◌+◌, ◌^◌, ◌<◌, ◌≤◌, ◌==◌, false, List, [], ◌∷◌, ◌++◌, flat_map, length, slice_index}
use Rattle.std.specs.List.{AllByRecursion}
use Rattle.gfx_model.specs.Limits.{max_payload}
use Rattle.gfx_model.specs.Events.{Event}
use Rattle.gfx_model.specs.Spelling.{HasSpelling, type_of, payload}
use Rattle.gfx_script_model.specs.Ids.{uses_of, defines_of, map_ids}
use Rattle.gfx_script_model.specs.Runs.{Entry}
use Rattle.gfx_script_model.specs.Scripts.{Line, Part, Parses, parses}
use Rattle.gfx_run_law.specs.Pieces.{AreApart, AreWhole}

-- a call or a write that has a block in version m
pub record HasBlock (m : ℕ) (e : Event) : Type 0 where
  pub fits : HasSpelling m e
  pub unmarked : (type_of e == 2) ≡ false
  pub small : length (payload m 0 e) ≤ max_payload

-- whatever ids of eight bytes stand for its names, the line has a block
abbrev pub HasBlocks : ℕ → Line → Type 0
HasBlocks m line = (ids : ℕ → ℕ) → ((k : ℕ) → ids k < 2 ^ 64) → HasBlock m (map_ids ids line.event)

-- the lines of a phase, of a script
abbrev pub phase_lines : List Part → List Line
phase_lines phase = flat_map (λ p. p.lines) phase

abbrev pub script_lines : List (List Part) → List Line
script_lines phases = flat_map phase_lines phases

-- the names that lines define
abbrev pub names_of : List Line → List ℕ
names_of lines = flat_map (λ l. defines_of 2 l.event) lines

-- the n numbers from `first` on
abbrev pub numbers_from : ℕ → ℕ → List ℕ
numbers_from first zero = []
numbers_from first (suc n) = first ∷ numbers_from (first + 1) n

-- names are numbered in the order in which the lines define them, and each line uses earlier ones, or 0 for none
abbrev pub AreNumbered : ℕ → List Line → Type 0
AreNumbered next [] = Unit {0}
AreNumbered next (line ∷ lines) =
    AllByRecursion (λ k. k < next) (uses_of 2 line.event)
    × (defines_of 2 line.event ≡ numbers_from next (length (defines_of 2 line.event)))
    × AreNumbered (next + length (defines_of 2 line.event)) lines

-- a script of version 1 or 2 whose threads and names are in order and whose lines have blocks
pub record IsPlayable (m : ℕ) (phases : List (List Part)) : Type 0 where
  pub version : (m ≡ 1) ⊎ (m ≡ 2)
  pub apart : AllByRecursion AreApart phases
  pub threads : AllByRecursion (AllByRecursion (λ p. p.thread ≤ 63)) phases
  pub numbered : AreNumbered 1 (script_lines phases)
  pub few : length (names_of (script_lines phases)) < 2 ^ 32
  pub blocks : AllByRecursion (HasBlocks m) (script_lines phases)

-- what a text parses to is playable
abbrev pub ParsedIsPlayable : Type 0
ParsedIsPlayable = (text : List ℕ) (m : ℕ) (phases : List (List Part)) → Parses text (parses m phases) → IsPlayable m phases

-- where names are numbered in order, pieces that are whole under the ids of a table that has all names are whole under a longer one
abbrev pub LongerTablesAgree : Type 0
LongerTablesAgree = (n : ℕ) (table more : List ℕ) (phases : List (List Part)) (pieces : List (List Entry)) →
    AreNumbered 1 (script_lines phases) → length table ≡ 1 + length (names_of (script_lines phases)) →
    AreWhole n (λ k. slice_index table k) phases pieces → AreWhole n (λ k. slice_index (table ++ more) k) phases pieces
