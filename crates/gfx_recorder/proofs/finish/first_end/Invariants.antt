use Rattle.std.proofs.Common.{◌≡◌, ℕ, ◌<◌, true, get_or}
use Rattle.gfx_recorder.specs.declared.worker.Worker.{Worker}
use Rattle.gfx_recorder.specs.Ends.{is_all}
use Rattle.gfx_recorder.proofs.finish.first_end.Given as goal

-- the workers so far came to the end of their lines
abbrev pub invariant-workers : goal.invariant-workers
invariant-workers l = (u : ℕ) (d : Worker) → u < l.worker-index → is_all (get_or l.workers u d).end ≡ true
