use Rattle.std.proofs.Common.{sym, subst}
use Rattle.gfx_model.specs.Events.{event_of}
use Rattle.gfx_capture.specs.ThreadBuffer.{CanBePut}
use Rattle.gfx_callers.proofs.Drawn.{one_drawn}
use Rattle.gfx_callers.proofs.caller.Caller.call_creating.Goals as goal

pub call-requires-clause-fits : goal.call-requires-clause-fits
call-requires-clause-fits g c = subst (λ m. CanBePut m (event_of c.args.effect.now)) (sym c.args.self.now.kind) c.requires.fits

pub call-requires-clause-drew : goal.call-requires-clause-drew
call-requires-clause-drew g c = one_drawn _ _ _ c.requires.ids c.requires.drew
