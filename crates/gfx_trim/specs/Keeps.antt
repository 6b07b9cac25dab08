-- What the trimmed file means.
use Rattle.std.specs.Prelude.{ℕ, List, Option}
use Rattle.std.specs.Io.KnownBytes.{Appends}
use Rattle.gfx_types.specs.declared.frame.Frame.{Frame}
use Rattle.gfx_model.specs.Blocks.End.{clean}
use Rattle.gfx_model.specs.Meaning.{Means}
use Rattle.gfx_model.specs.Trimmed.{IsTrimmed}
use Rattle.gfx_trim_law.specs.Law.{HasRange, frames_from}

-- A sink took the trimmed file of the range. It ends cleanly, and its frames are those that the file shows from `first` to `last`.
pub record Keeps (first last : ℕ) (before after : Option (List ℕ)) (bytes : List ℕ) : Type 0 where
  pub out : List ℕ
  pub took : Appends before after out
  pub trimmed : IsTrimmed first last bytes out
  -- the frames of the file up to `last`
  pub shown : List Frame
  pub range : HasRange first last bytes shown
  pub means : Means out (frames_from first shown) clean
