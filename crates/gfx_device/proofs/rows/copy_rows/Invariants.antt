use Rattle.std.proofs.Common.{◌≡◌, length}
use Rattle.gfx_device.specs.Rows.{copied}
use Rattle.gfx_device.proofs.rows.copy_rows.Given as goal

abbrev pub invariant-loop-row : goal.invariant-loop-row
invariant-loop-row l = (l.target ≡ copied l.copy (λ _. l.source) l.row l.initial.target) × (length l.target ≡ length l.initial.target)
