-- How far a cut is, by the blocks that were read.
use Rattle.std.specs.Prelude.{◌≡◌, ℕ, ◌+◌, ◌||◌, true, false, List, [], ◌∷◌, ◌++◌, flat_map}
use Rattle.gfx_model.specs.Blocks.{Whole}
use Rattle.gfx_model.specs.Trimmed.{reaches, has_section, boundary, has_boundary, history_to}
use Rattle.gfx_trim.specs.declared.phase.Phase.{Phase}
use Rattle.gfx_trim.specs.declared.phase.Phase.TheVariants as phase
use Rattle.gfx_trim.specs.Written.{acts, has_effect}

-- frame `first` doesn't begin in these blocks
pub record IsBefore (first : ℕ) (kept : List ℕ) (ws : List Whole) : Type 0 where
  pub ahead : has_boundary first ws ≡ false
  pub none : kept ≡ []

-- it begins in them, and its range has no effect yet
pub record IsWaiting (first : ℕ) (kept : List ℕ) (ws : List Whole) : Type 0 where
  pub there : has_boundary first ws ≡ true
  pub quiet : has_effect (boundary first ws).rest ≡ false
  pub same : kept ≡ flat_map (λ w. w.bytes) (boundary first ws).rest

-- its range has an effect, and frame `last` doesn't end in it
pub record IsWriting (first last : ℕ) (ws : List Whole) : Type 0 where
  pub there : has_boundary first ws ≡ true
  pub some : has_effect (boundary first ws).rest ≡ true
  pub going : reaches (last + 1) (history_to (boundary first ws)) (boundary first ws).rest ≡ false

-- the cut is as far as these blocks lead
abbrev pub IsPhase : Phase → (first last : ℕ) → (kept : List ℕ) → List Whole → Type 0
IsPhase phase.Before first last kept ws = IsBefore first kept ws
IsPhase phase.Waiting first last kept ws = IsWaiting first kept ws
IsPhase phase.Writing first last kept ws = IsWriting first last ws

-- the next block is one of the range, in which there is an effect by then
pub record Continues (first last : ℕ) (ws : List Whole) (w : Whole) : Type 0 where
  pub there : has_boundary first ws ≡ true
  pub section : has_section (ws ++ w ∷ []) ≡ has_section ws
  pub going : reaches (last + 1) (history_to (boundary first ws)) (boundary first ws).rest ≡ false
  pub some : (has_effect (boundary first ws).rest || acts w.content) ≡ true
