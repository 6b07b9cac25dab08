use Rattle.gfx_lean.proofs.Taking.{starts_before, starts_waiting}
use Rattle.gfx_lean.proofs.leaner.Leaner.new.Goals as goal
use Rattle.gfx_lean.proofs.leaner.Leaner.new.Goals.{then-first-eq1, else-first-eq1}

pub returns-clause-after : goal.returns-clause-after
returns-clause-after c = λ p replayed.
    elim c.if-first-eq1.branch [
      | then-first-eq1 w ↦ starts_waiting _ p w.if-first-eq1.true c.new-2.ensures.blocks w.result-is c.new.ensures c.new-2.ensures.fresh replayed
      | else-first-eq1 w ↦ starts_before _ p w.if-first-eq1.false c.new-2.ensures.blocks w.result-is c.new.ensures c.new-2.ensures.fresh replayed
    ]
