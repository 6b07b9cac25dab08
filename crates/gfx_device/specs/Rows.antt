-- Rows of a copy on lists of bytes.
use Rattle.std.specs.Prelude.{ℕ, zero, suc, ◌+◌, ◌*◌, ◌<◌, ◌≤◌, List, slice_range}
use Rattle.gfx_device.specs.declared.rows.Rows.{Rows}
use Rattle.gfx_pages.specs.Lists.{overwrite}

-- each of the rows lies below n
abbrev pub AreWithin : ℕ → ℕ → ℕ → ℕ → ℕ → Type 0
AreWithin n offset step size rows = (k : ℕ) → k < rows → offset + k * step + size ≤ n

-- the bytes after the first rows were copied, in order; a row is read from what `source` gives of the bytes at that time
abbrev pub copied : Rows → (List ℕ → List ℕ) → ℕ → List ℕ → List ℕ
copied c source zero bytes = bytes
copied c source (suc k) bytes =
    let here = copied c source k bytes in
    let at = c.from_offset + k * c.from_step in
    overwrite here (c.to_offset + k * c.to_step) (slice_range (source here) at (at + c.length))
