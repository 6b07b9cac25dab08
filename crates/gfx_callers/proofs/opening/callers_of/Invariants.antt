use Rattle.std.proofs.Common.{◌≡◌, ◌+◌, All, length}
use Rattle.gfx_seats.specs.Seat.{hand, desk_of}
use Rattle.gfx_seats.specs.Desk.{desk_id}
use Rattle.gfx_callers.specs.Caller.{CallsAt, IsReady}
use Rattle.gfx_callers.proofs.opening.callers_of.Given as goal

abbrev pub invariant-loop-pass : goal.invariant-loop-pass
invariant-loop-pass l = record {
  capture : All (λ p. desk_of p ≡ desk_id l.fn.capture.desk) l.passes.items;
  ready : All (λ p. IsReady (hand p)) l.passes.items;
  callers : All (λ c. CallsAt c l.fn.capture) l.callers.items;
  count : length l.passes.items + length l.callers.items ≡ length l.fn.passes.items;
}

abbrev pub decreases-loop-pass : goal.decreases-loop-pass
decreases-loop-pass l = length l.passes.items
