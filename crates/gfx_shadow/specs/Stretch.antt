-- Bytes at offsets that follow one another.
use Rattle.std.specs.Prelude.{ℕ, ◌+◌, ◌-◌, ◌≤◌, nat_le, nat_lt, ◌&&◌, if◌then◌else◌, length, slice_index, Option, Some, None}
use Rattle.gfx_shadow.specs.declared.stretch.Stretch.{Stretch}

-- the byte at an offset
unfoldable pub stretch_byte : Stretch → ℕ → Option ℕ
stretch_byte s i = if nat_le s.start i && nat_lt i s.end then Some (slice_index s.bytes.items (i - s.base)) else None

-- there is room for these offsets
pub record HasRoom (s : Stretch) (from to : ℕ) : Type 0 where
  pub low : s.base ≤ from
  pub high : to ≤ s.base + length s.bytes.items
