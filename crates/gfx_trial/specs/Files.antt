-- Files that have a range of frames.
use Rattle.std.specs.Prelude.{◌≡◌, ◌≤◌, ◌+◌, ◌-◌, ℕ, List, map, unwrap_or}
use Rattle.std.specs.List.{range_with_len}
use Rattle.sha2.specs.Sha256.{sha256}
use Rattle.gfx_types.specs.declared.frame.Frame.{Frame}
use Rattle.gfx_model.specs.Blocks.End.{clean}
use Rattle.gfx_model.specs.Meaning.{Means, frames_to}
use Rattle.gfx_trim_law.specs.Law.{frames_from}
use Rattle.gfx_player.specs.Meanings.{first_of}
use Rattle.gfx_digest.specs.declared.digest.Digested.{Digested}
use Rattle.gfx_digest.specs.Images.{image_bytes}

-- how many frames there are from `first` to `last`
abbrev pub count_of : (first last : ℕ) → ℕ
count_of first last = last - first + 1

-- the file ends cleanly, and these are its frames from `first` to `last`, none of which is missing
pub record HasFrames (first last : ℕ) (bytes : List ℕ) (shown : List Frame) : Type 0 where
  pub all : List Frame
  pub means : Means bytes all clean
  pub low : unwrap_or (first_of all) 0 ≤ first
  pub are : shown ≡ frames_from first (frames_to last all)
  pub numbers : map (λ f. f.number) shown ≡ range_with_len first (count_of first last)

-- the digest of these frames, and their number
abbrev pub digested : (first last : ℕ) (shown : List Frame) → Digested
digested first last shown = record { digest = sha256 (image_bytes shown); frames = count_of first last }
