use Rattle.std.proofs.Common.{◌≡◌, ◌∷◌, [], Bool, if◌then◌else◌, ap, subst, sym, ◌∙◌, OnOk}
use Rattle.gfx_model.specs.Events.Event.{GetDeviceQueue}
use Rattle.gfx_model.specs.Steps.Detail.{a_queue}
use Rattle.gfx_model.specs.Steps.Step.{creates}
use Rattle.gfx_model.specs.Effects.{effect_of}
use Rattle.gfx_tracker.specs.State.{state_answers}
use Rattle.gfx_tracker.proofs.Next.{may_create, after_one, after_none}
use Rattle.gfx_tracker.proofs.Fetched.{has_queue, has_no_queue}
use Rattle.gfx_tracker.proofs.queues.get_device_queue.Goals as goal

pub create-requires-clause-may : goal.create-requires-clause-may
unfolding effect_of
create-requires-clause-may c =
    let v = state_answers c.args.state.now in
    may_create v (GetDeviceQueue c.args.device c.args.queue) c.args.queue c.args.device a_queue [] c.requires
    (ap (λ (t : Bool). if t then [] else creates c.args.queue c.args.device a_queue ∷ [])
    (has_no_queue v c.args.device c.args.queue c.requires (sym c.was_used.ensures ∙ c.if-was_used.false)))

pub returns-then-was_used-clause-ok : goal.returns-then-was_used-clause-ok
unfolding effect_of
returns-then-was_used-clause-ok c =
    let v = state_answers c.args.state.now in
    c.take.ensures
    ∙ after_none v (GetDeviceQueue c.args.device c.args.queue)
    (ap (λ (t : Bool). if t then [] else creates c.args.queue c.args.device a_queue ∷ []) (has_queue v c.args.device c.args.queue c.requires (sym c.was_used.ensures ∙ c.if-was_used.true)))

pub returns-clause-ok : goal.returns-clause-ok
unfolding effect_of
returns-clause-ok c =
    let v = state_answers c.args.state.now in
    subst (λ w. OnOk c.create.result (state_answers c.create.new.self ≡ w))
    (after_one v (GetDeviceQueue c.args.device c.args.queue) (creates c.args.queue c.args.device a_queue)
    (ap (λ (t : Bool). if t then [] else creates c.args.queue c.args.device a_queue ∷ [])
    (has_no_queue v c.args.device c.args.queue c.requires (sym c.was_used.ensures ∙ c.if-was_used.false)))) c.create.ensures.ok
