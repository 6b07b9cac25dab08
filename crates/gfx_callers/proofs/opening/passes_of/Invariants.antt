use Rattle.std.proofs.Common.{◌≡◌, ◌+◌, All, length}
use Rattle.gfx_seats.specs.declared.stage.Stage.TheVariants.{Idle}
use Rattle.gfx_seats.specs.Seat.{hand, desk_of}
use Rattle.gfx_seats.specs.Desk.{desk_id}
use Rattle.gfx_callers.specs.Caller.{CallsAt}
use Rattle.gfx_callers.proofs.opening.passes_of.Given as goal

abbrev pub invariant-loop-caller : goal.invariant-loop-caller
invariant-loop-caller l = record {
  callers : All (λ c. CallsAt c l.fn.capture) l.callers.items;
  capture : All (λ p. desk_of p ≡ desk_id l.fn.capture.desk) l.passes.items;
  idle : All (λ p. (hand p).stage ≡ Idle) l.passes.items;
  count : length l.callers.items + length l.passes.items ≡ length l.fn.callers.items;
}

abbrev pub decreases-loop-caller : goal.decreases-loop-caller
decreases-loop-caller l = length l.callers.items
