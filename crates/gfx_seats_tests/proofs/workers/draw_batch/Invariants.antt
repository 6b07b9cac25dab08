use Rattle.std.proofs.Common.{◌≡◌}
use Rattle.gfx_seats.specs.Entries.{AreAmong}
use Rattle.gfx_seats.specs.Seat.{hand, desk_of}
use Rattle.gfx_seats.specs.Desk.{desk_id}
use Rattle.gfx_seats_tests.specs.Journal.{named_ids}
use Rattle.gfx_seats_tests.specs.Workers.{DrewMore}
use Rattle.gfx_seats_tests.proofs.workers.draw_batch.Given as goal

abbrev pub invariant-loop : goal.invariant-loop
invariant-loop l = record {
  desk : desk_of l.seat ≡ desk_id l.fn.desk;
  drew : DrewMore (hand l.fn.seat) l.counter (hand l.seat);
  named : AreAmong (named_ids l.events.items) (hand l.seat).drawn;
}
