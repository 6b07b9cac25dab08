use Rattle.std.proofs.Common.{arith}
use Rattle.gfx_rules.proofs.Counted.{rises_more, rises_first}
use Rattle.gfx_rules.proofs.apart.rise.Goals as goal
use Rattle.gfx_rules.proofs.apart.rise.Goals.{else-at-gt0-via-then-at-gt0+else-id-last, else-at-gt0-via-else-at-gt0}

pub ids-preserved : goal.ids-preserved
ids-preserved c =
    elim c.else-at-gt0.branch [
      | else-at-gt0-via-then-at-gt0+else-id-last w ↦
          let more = rises_more c.args.ids.now c.ids.at c.ids.last (omega arith) c.ids.invariant.apart c.ids.invariant.above (omega (arith, w.if-id-last.false)) in
          record { apart = more.0; above = more.1 }
      | else-at-gt0-via-else-at-gt0 w ↦
          let more = rises_first c.args.ids.now c.ids.at (omega arith) (omega (arith, w.if-at-gt0.false)) in
          record { apart = more.0; above = more.1 }
    ]
