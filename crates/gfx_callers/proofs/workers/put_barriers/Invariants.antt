use Rattle.std.proofs.Common.{◌≡◌, []}
use Rattle.gfx_model.specs.Events.{event_of}
use Rattle.gfx_capture.specs.Entry.{event_ids}
use Rattle.gfx_capture.specs.ThreadBuffer.{CanBePut}
use Rattle.gfx_callers.proofs.workers.put_barriers.Given as goal

abbrev pub invariant-loop-done : goal.invariant-loop-done
invariant-loop-done l = record {
  pass : l.caller.pass ≡ l.fn.caller.pass;
  fits : CanBePut 1 (event_of l.barrier);
  ids : event_ids (event_of l.barrier) ≡ [];
}
