-- What is written of a range of frames, by the blocks that were read.
use Rattle.std.specs.Prelude.{ℕ, Bool, true, false, if◌then◌else◌, List, []}
use Rattle.std.specs.List.{list_any}
use Rattle.gfx_model.specs.Blocks.{Content, Whole, minor_of}
use Rattle.gfx_model.specs.Blocks.Content.{skipped, effect}
use Rattle.gfx_model.specs.Trimmed.{boundary, range_from, trimmed_by}
use Rattle.gfx_player.specs.Meanings.{valid_in}

-- a block that isn't skipped
abbrev pub acts : Content → Bool
acts skipped = false
acts (effect thread event) = true

-- one of these blocks has an effect
abbrev pub has_effect : List Whole → Bool
has_effect ws = list_any (λ w. acts w.content) ws

-- the blocks of the range
abbrev pub range_in : (first last : ℕ) → List Whole → List Whole
range_in first last ws = range_from last (boundary first ws)

-- the file of the range as far as these blocks go, and nothing before its first effect
unfoldable pub written_of : (m first last : ℕ) → List Whole → List ℕ
written_of m first last ws = if has_effect (range_in first last ws) then trimmed_by m first last (boundary first ws) else []

-- what is written of a file before its first bad block: the header, the section and the blocks of the range
abbrev pub written : (first last : ℕ) → List ℕ → List ℕ
written first last bytes = written_of (minor_of bytes) first last (valid_in bytes)
