use Rattle.gfx_recorder.specs.Workers.{Swept}
use Rattle.gfx_recorder.proofs.phase.sweep.Given as goal

-- the first worker met the others so far
abbrev pub invariant-workers : goal.invariant-workers
invariant-workers l = Swept l.worker-index l.fn.first l.fn.others l.first l.others
