-- The words of each command.
use Rattle.std.specs.Prelude.{◌≤◌, ◌<◌, ◌^◌, ℕ, List, ◌++◌, codes, decimal}
use Rattle.gfx_words.specs.declared.range.FrameRange.{FrameRange}

-- two numbers with a hyphen between them
abbrev pub range_text : FrameRange → List ℕ
range_text r = decimal r.first ++ codes "-" ++ decimal r.last

-- numbers of 64 bits, the first not above the last
pub record FitsRange (r : FrameRange) : Type 0 where
  pub first : r.first < 2 ^ 64
  pub last : r.last < 2 ^ 64
  pub ordered : r.first ≤ r.last
