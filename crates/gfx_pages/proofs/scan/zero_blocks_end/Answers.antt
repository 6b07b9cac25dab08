use Rattle.std.proofs.Common.{arith, refl}
use Rattle.gfx_pages.proofs.Scans.{zeros_below_more}
use Rattle.gfx_pages.proofs.scan.zero_blocks_end.Goals as goal

pub loop-end-preserved : goal.loop-end-preserved
loop-end-preserved c = (omega arith, zeros_below_more _ _ 256 c.loop-end.invariant.1 (c.is_zero.ensures.0 (rw c.if-not-is_zero.false refl)))
