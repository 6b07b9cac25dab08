use Rattle.std.proofs.Common.{rules, ◌≡◌, [], ◌∷◌, ◌++◌, refl}
use Rattle.gfx_model.specs.Events.{event_of}
use Rattle.gfx_seats.specs.Desk.{desk_id}
use Rattle.gfx_recorder.proofs.Effects.{ready-put, puts-through, stops-through, stops-first, on_ok_more, if_err_more}
use Rattle.gfx_recorder.proofs.worker.Worker.run_effect.Goals as goal

pub returns-in-Err-clause-err : goal.returns-in-Err-clause-err
returns-in-Err-clause-err g c = stops-first c.args.self.now c.append_if.new.self (event_of c.args.effect.now) c.in-Err.fault c.in-Err.ensures.err

pub append_if-requires-2-clause-ready : goal.append_if-requires-2-clause-ready
append_if-requires-2-clause-ready g c =
    let w₁ = c.append_if.new.self in let event = event_of c.args.effect.now in
    let more : c.put.new.self.events ≡ w₁.buffer.events ++ event ∷ [] = search rules in
    ready-put (desk_id c.args.capture.now.desk) c.args.self.now w₁ _ event c.requires.ready c.in_default.ensures.ok c.requires.drew refl c.put.ensures.minor more refl

pub returns-clause-ok : goal.returns-clause-ok
returns-clause-ok g c =
    let w₁ = c.append_if.new.self in let event = event_of c.args.effect.now in
    let more : c.put.new.self.events ≡ w₁.buffer.events ++ event ∷ [] = search rules in
    on_ok_more c.append_if-2.result _ _ (puts-through c.args.self.now w₁ _ c.append_if-2.new.self event c.in_default.ensures.ok refl c.put.ensures.minor more refl) c.append_if-2.ensures.ok

pub returns-clause-err : goal.returns-clause-err
returns-clause-err g c =
    let w₁ = c.append_if.new.self in let event = event_of c.args.effect.now in
    let more : c.put.new.self.events ≡ w₁.buffer.events ++ event ∷ [] = search rules in
    if_err_more c.append_if-2.result _ _ (stops-through c.args.self.now w₁ _ c.append_if-2.new.self event c.in_default.ensures.ok refl c.put.ensures.minor more refl) c.append_if-2.ensures.err
