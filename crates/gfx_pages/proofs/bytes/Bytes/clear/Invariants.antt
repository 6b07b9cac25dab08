use Rattle.std.proofs.Common.{◌≡◌, ◌-◌, ◌≤◌, replicate}
use lib.Seq.{paste}
use Rattle.gfx_pages.proofs.bytes.Bytes.clear.Given as goal

abbrev pub invariant-loop-done : goal.invariant-loop-done
invariant-loop-done l = (l.done ≤ l.count) × (l.self ≡ paste l.initial.self l.at (replicate l.count 0) l.done)

abbrev pub decreases-loop-done : goal.decreases-loop-done
decreases-loop-done l = l.count - l.done
