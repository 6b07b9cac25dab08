-- Ranges of frames, in a history or not.
use Rattle.std.specs.Prelude.{◌<◌, ◌≤◌, ◌⊎◌, ℕ, List}
use Rattle.gfx_model.specs.Events.{Event}
use Rattle.gfx_player.specs.Meanings.{first_in, last_in}

-- these frames are in a history
pub record IsInside (first last : ℕ) (h : List Event) : Type 0 where
  pub low : first_in h ≤ first
  pub high : last ≤ last_in h

-- one of them isn't
abbrev pub IsOutside : (first last : ℕ) → List Event → Type 0
IsOutside first last h = (first < first_in h) ⊎ (last_in h < last)
