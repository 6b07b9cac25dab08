use Rattle.gfx_seats.specs.Seat.{hand}
use Rattle.gfx_callers.proofs.Ready.{ready}
use Rattle.gfx_callers.proofs.opening.open.Goals as goal

pub callers_of-requires-clause-ready : goal.callers_of-requires-clause-ready
callers_of-requires-clause-ready c = ready (λ p. hand p) c.in_ok-capture.passes.items 0 c.args.threads c.in_ok-capture.ensures.passes
