use Rattle.std.proofs.Common.{◌≡◌, ℕ, ◌<◌, ◌%◌, get_or, slice_index}
use Rattle.std.specs.Int.{to_le_bytes, w32}
use Rattle.gfx_pages.proofs.bytes.fill.repeat.Given as goal

abbrev pub invariant-loop-k : goal.invariant-loop-k
invariant-loop-k l = (j : ℕ) (d : ℕ) → j < l.k → get_or l.into j d ≡ slice_index (to_le_bytes w32 l.word) (j % 4)
