-- The fills of bytes, as the section of a capture has them: of each page that has a byte other than 0, the range from the first
-- such byte to the last.
use Rattle.std.specs.Prelude.{◌≡◌, ℕ, ◌+◌, ◌<◌, ◌≤◌, List, [], ◌∷◌, All, map, length, replicate, slice_index, slice_range}
use Rattle.gfx_model.specs.Section as section
use Rattle.gfx_pages.specs.declared.bytes.Span.{Span}
use Rattle.gfx_pages.specs.Lists.{overwrite}

-- a range of bytes, as the program has it
abbrev pub span_at : section.Span → Span
span_at s = record { at = s.at; length = s.length }

-- the fills of a list of bytes, in order
unfoldable pub fills : List ℕ → List Span
fills bytes = map span_at (section.fills_of (slice_index bytes) (length bytes))

-- a list in which the bytes at these spans are those of another
abbrev pub refilled : List ℕ → List Span → List ℕ → List ℕ
refilled bytes [] into = into
refilled bytes (span ∷ spans) into =
    refilled bytes spans (overwrite into span.at (slice_range bytes span.at (span.at + span.length)))

-- a span of a byte or more, below n
abbrev pub IsSpanBelow : ℕ → Span → Type 0
IsSpanBelow n span = (0 < span.length) × (span.at + span.length ≤ n)

-- The fills of bytes lie within them and, written over zeros, give them back.
pub record FillsGive (bytes : List ℕ) : Type 0 where
  pub spans : All (IsSpanBelow (length bytes)) (fills bytes)
  pub same : refilled bytes (fills bytes) (replicate (length bytes) 0) ≡ bytes

-- the fills of any bytes lie within them and, written over zeros, give them back
abbrev pub FillsGiveBytes : Type 0
FillsGiveBytes = (bytes : List ℕ) → FillsGive bytes
