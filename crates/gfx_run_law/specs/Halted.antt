-- A run that ended in a phase because a call was not accepted.
use Rattle.std.specs.Prelude.{◌≡◌, ◌⊎◌, ℕ, ◌<◌, true, List, ◌++◌, length, slice_get, Some, None, not, nat_le, IsTrue}
use Rattle.std.specs.List.{list_all}
use Rattle.gfx_model.specs.Checks.{is_distinct}
use Rattle.gfx_model.specs.History.{view, is_valid}
use Rattle.gfx_script_model.specs.Ids.{map_ids, defines_of}
use Rattle.gfx_script_model.specs.Scripts.{Line, Part}
use Rattle.gfx_script_model.specs.Runs.{Entry, Runs, Matches, Stopped, Safe, IsRefused, history, events_of, lines_in, next_line}
use Rattle.gfx_run_law.specs.Pieces.{joined, ArePhases, IsWhole, IsPartly}

-- the ids that a call creates are new after a log: different ones from 1 on, none of which it uses
pub record AreNewIds (m : ℕ) (log : List Entry) (xs : List ℕ) : Type 0 where
  pub positive : IsTrue (list_all (nat_le 1) xs)
  pub distinct : IsTrue (is_distinct xs)
  pub unused : IsTrue (list_all (λ x. not ((view (history log)).used x)) xs)

-- thread t made its first calls of the last piece, and the next one is refused after a prefix of the log which has them all
pub record IsHeld (m : ℕ) (ids : ℕ → ℕ) (start piece : List Entry) (t : ℕ) (lines : List Line) (done : ℕ) : Type 0 where
  pub line : Line
  pub next : slice_get lines done ≡ Some line
  pub front : List Entry
  pub rest : List Entry
  pub cut : piece ≡ front ++ rest
  pub own : events_of t front ≡ events_of t piece
  pub new_ids : AreNewIds m (start ++ front) (defines_of m (map_ids ids line.event))
  pub refused : IsRefused m (start ++ front) t (map_ids ids line.event)

-- a thread has no line left, or is held at one
abbrev pub DoneOrHeld : (m n : ℕ) (ids : ℕ → ℕ) (phases : List (List Part)) (log : List Entry) → IsPartly m n ids phases log → ℕ → Type 0
DoneOrHeld m n ids phases log p t =
    (p.done t ≡ length (lines_in t p.phase)) ⊎ IsHeld m ids (joined p.pieces) p.piece t (lines_in t p.phase) (p.done t)

-- the log is valid, a run up to a phase, and each thread of this phase with lines left is stopped; `least` is the least of them
pub record IsHalted (m : ℕ) (phases : List (List Part)) (log : List Entry) : Type 0 where
  pub valid : is_valid (history log) ≡ true
  pub phase : ℕ
  pub run : Runs m phases log phase
  pub stopped : (t : ℕ) (line : Line) → next_line run t ≡ Some line → (before : List Entry) × Stopped m phases log phase t before
  pub least : ℕ
  pub before : List Entry
  pub stop : Stopped m phases log phase least before
  pub same : stop.run ≡ run
  pub none_below : (t : ℕ) → t < least → next_line run t ≡ None

-- ---- the laws

-- what n threads made of all phases, with all lines, matches the script
abbrev pub WholeMatches : Type 0
WholeMatches = (m n : ℕ) (ids : ℕ → ℕ) (phases : List (List Part)) (log : List Entry) →
    ArePhases n phases → IsWhole m n ids phases log → Matches m phases log

-- no thread of a safe script is stopped in a valid log
abbrev pub SafeGoesOn : Type 0
SafeGoesOn = (m : ℕ) (phases : List (List Part)) (log : List Entry) (q t : ℕ) (before : List Entry) →
    Safe m phases → is_valid (history log) ≡ true → Stopped m phases log q t before → ⊥
