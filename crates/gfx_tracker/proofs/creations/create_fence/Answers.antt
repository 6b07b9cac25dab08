use Rattle.std.proofs.Common.{◌≡◌, ◌∷◌, [], ◌==◌, Bool, true, false, if◌then◌else◌, refl, ap, ◌∙◌, arith}
use Rattle.std.proofs.lemmas.Bool.Decides.{nat_tests}
use Rattle.gfx_model.specs.Events.Event.{CreateFence}
use Rattle.gfx_model.specs.Steps.Detail.{a_fence}
use Rattle.gfx_model.specs.Steps.Step.{creates, signals}
use Rattle.gfx_model.specs.Questions.{passes}
use Rattle.gfx_model.specs.Effects.{effect_of}
use Rattle.gfx_model.specs.After.{after}
use Rattle.gfx_laws.specs.Lawful.{has_signal}
use Rattle.gfx_tracker.specs.State.{state_answers}
use Rattle.gfx_tracker.proofs.Next.{may_create, after_one, after_steps, made_there}
use Rattle.gfx_tracker.proofs.creations.create_fence.Goals as goal

pub create-requires-clause-may : goal.create-requires-clause-may
unfolding effect_of
create-requires-clause-may c =
    may_create (state_answers c.args.state.now) (CreateFence c.args.device c.args.fence c.args.flags) c.args.fence c.args.device a_fence
    (if c.args.flags == 1 then signals c.args.fence ∷ [] else []) c.requires refl

pub signal-requires : goal.signal-requires
signal-requires c =
    ap (passes (λ o. has_signal o.detail))
    (made_there (state_answers c.args.state.now) (state_answers c.create.new.self) c.args.fence c.args.device a_fence c.in_ok-create.ensures.ok)

pub returns-then-flags-eq1-clause-ok : goal.returns-then-flags-eq1-clause-ok
unfolding effect_of
returns-then-flags-eq1-clause-ok c =
    let v = state_answers c.args.state.now in
    let test = c.if-flags-eq1.true in
    let is : (c.args.flags == 1) ≡ true = grind (arith, nat_tests, test) in
    c.signal.ensures ∙ ap (λ w. after w (signals c.args.fence)) c.in_ok-create.ensures.ok
    ∙ after_steps v (CreateFence c.args.device c.args.fence c.args.flags) (creates c.args.fence c.args.device a_fence) (signals c.args.fence ∷ [])
    (ap (λ (t : Bool). creates c.args.fence c.args.device a_fence ∷ (if t then signals c.args.fence ∷ [] else [])) is)

pub returns-else-flags-eq1-clause-ok : goal.returns-else-flags-eq1-clause-ok
unfolding effect_of
returns-else-flags-eq1-clause-ok c =
    let v = state_answers c.args.state.now in
    let test = c.if-flags-eq1.false in
    let is : (c.args.flags == 1) ≡ false = grind (arith, nat_tests, test) in
    c.in_ok-create.ensures.ok
    ∙ after_one v (CreateFence c.args.device c.args.fence c.args.flags) (creates c.args.fence c.args.device a_fence)
    (ap (λ (t : Bool). creates c.args.fence c.args.device a_fence ∷ (if t then signals c.args.fence ∷ [] else [])) is)
