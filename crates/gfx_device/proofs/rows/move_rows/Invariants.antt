use Rattle.std.proofs.Common.{◌≡◌, length}
use Rattle.gfx_device.specs.Rows.{copied}
use Rattle.gfx_device.proofs.rows.move_rows.Given as goal

abbrev pub invariant-loop-row : goal.invariant-loop-row
invariant-loop-row l = (l.bytes ≡ copied l.copy (λ here. here) l.row l.initial.bytes) × (length l.bytes ≡ length l.initial.bytes)
