use Rattle.std.proofs.Common.{◌<◌, sym, ap, subst}
use Rattle.gfx_seats.specs.Entries.{times}
use Rattle.gfx_seats.specs.Seat.{hand}
use Rattle.gfx_callers.proofs.Drawn.{last_drawn}
use Rattle.gfx_callers.proofs.caller.Caller.draw.Goals as goal

pub returns-clause-drew : goal.returns-clause-drew
returns-clause-drew c =
    subst (λ l. 0 < times c.draw.result l) (sym (ap (λ h. h.drawn) c.draw.ensures.pass)) (last_drawn (hand c.args.self.now.pass).drawn c.draw.result)
