use Rattle.std.proofs.Common.{sym, subst}
use Rattle.gfx_model.specs.Events.{event_of}
use Rattle.gfx_capture.specs.ThreadBuffer.{CanBePut}
use Rattle.gfx_callers.proofs.caller.Caller.put.Goals as goal

pub put-requires-clause-fits : goal.put-requires-clause-fits
put-requires-clause-fits c = subst (λ m. CanBePut m (event_of c.args.effect.now)) (sym c.args.self.now.waiting_kind) c.requires.fits
