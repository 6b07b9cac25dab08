use Rattle.gfx_trim.proofs.Taking.{start_before, start_waiting}
use Rattle.gfx_trim.proofs.cutter.Cutter.new.Goals as goal
use Rattle.gfx_trim.proofs.cutter.Cutter.new.Goals.{then-first-eq1, else-first-eq1}

pub returns-clause-phase : goal.returns-clause-phase
returns-clause-phase c =
    elim c.if-first-eq1.branch [
      | then-first-eq1 w ↦ start_waiting c.args.first c.args.last _ _ w.if-first-eq1.true c.new.ensures.items w.result-is
      | else-first-eq1 w ↦ start_before c.args.first c.args.last _ _ w.if-first-eq1.false c.new.ensures.items w.result-is
    ]
