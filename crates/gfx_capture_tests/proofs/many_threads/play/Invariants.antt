use Rattle.gfx_callers.specs.Caller.{CallsAt}
use Rattle.gfx_capture_tests.proofs.many_threads.play.Given as goal

abbrev pub invariant-loop : goal.invariant-loop
invariant-loop g l = CallsAt l.caller l.fn.capture
