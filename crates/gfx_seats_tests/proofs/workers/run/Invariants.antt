use Rattle.std.proofs.Common.{◌≡◌, ◌+◌, ◌≤◌, length}
use Rattle.gfx_seats.specs.declared.stage.Stage.TheVariants.{Idle}
use Rattle.gfx_seats.specs.Seat.{hand, desk_of}
use Rattle.gfx_seats.specs.Desk.{desk_id}
use Rattle.gfx_seats_tests.proofs.workers.run.Given as goal

abbrev pub invariant-loop-step : goal.invariant-loop-step
invariant-loop-step g l = record {
  desk : desk_of l.seat ≡ desk_id l.fn.desk;
  stage : (hand l.seat).stage ≡ Idle;
  kind : (hand l.seat).kind ≡ 1;
  few : length (hand l.seat).drawn + l.left ≤ l.fn.plan.entries;
}
