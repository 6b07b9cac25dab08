use Rattle.std.proofs.Common.{◌≡◌, ◌-◌, ◌≤◌, ◌%◌, ◌⊎◌}
use lib.Seq.{paste}
use Rattle.gfx_pages.specs.Lists.{repeated}
use Rattle.gfx_pages.proofs.bytes.Bytes.fill.Given as goal

abbrev pub invariant-loop-done : goal.invariant-loop-done
invariant-loop-done l = (l.done ≤ l.count) × ((l.done % 4 ≡ 0) ⊎ (l.done ≡ l.count)) × (l.self ≡ paste l.initial.self l.at (repeated l.word l.count) l.done)

abbrev pub decreases-loop-done : goal.decreases-loop-done
decreases-loop-done l = l.count - l.done
