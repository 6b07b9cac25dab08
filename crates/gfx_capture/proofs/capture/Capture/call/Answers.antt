use Rattle.std.proofs.Common.{rules, ◌≡◌, [], ◌∷◌, sym, subst, List}
use Rattle.gfx_model.specs.Events.{Event, event_of}
use Rattle.gfx_seats.specs.Seat.{hand}
use Rattle.gfx_capture.specs.Pass.{AreNew}
use Rattle.gfx_capture.proofs.Places.{nothing_done}
use Rattle.gfx_capture.proofs.capture.Capture.call.Goals as goal

pub returns-then-is_err-clause-tells : goal.returns-then-is_err-clause-tells
returns-then-is_err-clause-tells g c = nothing_done (hand c.args.pass.now) (event_of c.args.effect.now)

pub returns-clause-new_ids : goal.returns-clause-new_ids
returns-clause-new_ids g c new =
    let events : c.put.new.self.events ≡ event_of c.args.effect.now ∷ [] = search rules in
    c.batch-answer.ensures.new_ids (subst (λ (l : List Event). AreNew (hand c.args.pass.now) l) (sym events) new)
