use Rattle.gfx_seats.specs.Seat.{hand}
use Rattle.gfx_seats_tests.proofs.Ready.{ready}
use Rattle.gfx_seats_tests.proofs.workers.open.Goals as goal

pub returns-clause-ready : goal.returns-clause-ready
returns-clause-ready c = ready (λ s. hand s) c.in_ok-desk.seats.items 0 c.args.threads c.in_ok-desk.ensures.seats
