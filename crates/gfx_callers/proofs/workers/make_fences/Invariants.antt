use Rattle.gfx_callers.specs.Caller.{CallsAt}
use Rattle.gfx_callers.proofs.workers.make_fences.Given as goal

abbrev pub invariant-loop : goal.invariant-loop
invariant-loop g l = CallsAt l.caller l.fn.capture
