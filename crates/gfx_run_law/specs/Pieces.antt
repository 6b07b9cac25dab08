-- A log in pieces, one for each phase, as far as the first threads are concerned.
use Rattle.std.specs.Prelude.{◌≡◌, ℕ, ◌<◌, ◌≤◌, false, List, [], ◌∷◌, ◌++◌, length, take, flat_map}
use Rattle.gfx_script_model.specs.Scripts.{Part, has_thread}
use Rattle.gfx_script_model.specs.Runs.{Entry, AreIds, events_of, calls_of, lines_in}

-- pieces, one after another
abbrev pub joined : List (List Entry) → List Entry
joined pieces = flat_map (λ piece. piece) pieces

-- all lines of each of the first n threads
abbrev pub HasAllLines : ℕ → (ℕ → ℕ) → List Part → List Entry → Type 0
HasAllLines n ids phase piece = (t : ℕ) → t < n → events_of t piece ≡ calls_of ids (lines_in t phase)

-- a piece for each phase, with all lines
abbrev pub AreWhole : ℕ → (ℕ → ℕ) → List (List Part) → List (List Entry) → Type 0
AreWhole n ids [] [] = Unit {0}
AreWhole n ids [] (piece ∷ pieces) = ⊥
AreWhole n ids (phase ∷ phases) [] = ⊥
AreWhole n ids (phase ∷ phases) (piece ∷ pieces) = HasAllLines n ids phase piece × AreWhole n ids phases pieces

-- each thread has one part
abbrev pub AreApart : List Part → Type 0
AreApart [] = Unit {0}
AreApart (p ∷ ps) = (has_thread p.thread ps ≡ false) × AreApart ps

-- in each phase each thread has one part, and the threads from n on have none
abbrev pub ArePhases : ℕ → List (List Part) → Type 0
ArePhases n [] = Unit {0}
ArePhases n (phase ∷ phases) = AreApart phase × ((t : ℕ) → n ≤ t → has_thread t phase ≡ false) × ArePhases n phases

-- the log is what n threads made in the first phases, and all lines of these are in it
pub record IsWhole (m n : ℕ) (ids : ℕ → ℕ) (phases : List (List Part)) (log : List Entry) : Type 0 where
  pub pieces : List (List Entry)
  pub whole : AreWhole n ids phases pieces
  pub cut : log ≡ joined pieces
  pub foreign : (t : ℕ) → n ≤ t → events_of t log ≡ []
  pub are_ids : AreIds m ids log

-- the log is what n threads made in the phases up to one in which each made the calls of its first lines, `done t` of them
pub record IsPartly (m n : ℕ) (ids : ℕ → ℕ) (phases : List (List Part)) (log : List Entry) : Type 0 where
  pub before : List (List Part)
  pub phase : List Part
  pub rest : List (List Part)
  pub are : phases ≡ before ++ phase ∷ rest
  pub pieces : List (List Entry)
  pub whole : AreWhole n ids before pieces
  pub piece : List Entry
  pub cut : log ≡ joined pieces ++ piece
  pub done : ℕ → ℕ
  pub within : (t : ℕ) → t < n → done t ≤ length (lines_in t phase)
  pub calls : (t : ℕ) → t < n → events_of t piece ≡ calls_of ids (take (done t) (lines_in t phase))
  pub foreign : (t : ℕ) → n ≤ t → events_of t log ≡ []
  pub are_ids : AreIds m ids log
