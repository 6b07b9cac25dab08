use Rattle.std.proofs.Common.{arith, refl}
use Rattle.gfx_pages.proofs.Scans.{zeros_above_more}
use Rattle.gfx_pages.proofs.scan.zero_blocks_start.Goals as goal

pub loop-start-preserved : goal.loop-start-preserved
loop-start-preserved c = (omega arith, zeros_above_more _ _ 256 (omega arith) c.loop-start.invariant.1 (c.is_zero.ensures.0 (rw c.if-not-is_zero.false refl)))
