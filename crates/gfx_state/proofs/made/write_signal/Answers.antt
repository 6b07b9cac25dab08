use Rattle.std.proofs.Common.{◌∷◌, [], ap, sym}
use Rattle.gfx_model.specs.Events.Event.{SetSemaphoreState}
use Rattle.gfx_model.specs.Section.{when}
use Rattle.gfx_state.proofs.Writing.{wrote_as, wrote_none}
use Rattle.gfx_state.proofs.made.write_signal.Goals as goal

pub returns-then-signalled : goal.returns-then-signalled
returns-then-signalled g c = wrote_as (sym (ap (λ t. when t (SetSemaphoreState c.args.semaphore 1 ∷ [])) c.if-signalled.true)) c.write_effect.ensures

pub returns : goal.returns
returns g c = wrote_none (ap (λ t. when t (SetSemaphoreState c.args.semaphore 1 ∷ [])) c.if-signalled.false)
