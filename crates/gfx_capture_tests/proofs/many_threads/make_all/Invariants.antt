use Rattle.gfx_callers.specs.Caller.{CallsAt}
use Rattle.gfx_capture_tests.proofs.many_threads.make_all.Given as goal

abbrev pub invariant-loop-call : goal.invariant-loop-call
invariant-loop-call g l = CallsAt l.caller l.fn.capture
