use Rattle.std.proofs.Common.{◌≡◌, ℕ, ◌≤◌, length, get_or}
use Rattle.gfx_pages.proofs.scan.zero_blocks_start.Given as goal

abbrev pub invariant-loop-start : goal.invariant-loop-start
invariant-loop-start l = (l.start ≤ length l.bytes) × ((k : ℕ) → l.start ≤ k → get_or l.bytes k 0 ≡ 0)

abbrev pub decreases-loop-start : goal.decreases-loop-start
decreases-loop-start l = l.start
