use Rattle.std.proofs.Common.{◌≡◌, refl, subst, [], None, OnOk}
use Rattle.gfx_model.specs.Events.Event.{CreateImage}
use Rattle.gfx_model.specs.Steps.Detail.{an_image}
use Rattle.gfx_model.specs.Steps.Step.{creates}
use Rattle.gfx_model.specs.Effects.{effect_of}
use Rattle.gfx_tracker.specs.State.{state_answers}
use Rattle.gfx_tracker.proofs.Next.{may_create, after_one}
use Rattle.gfx_tracker.proofs.creations.create_image.Goals as goal

pub create-requires-clause-may : goal.create-requires-clause-may
unfolding effect_of
create-requires-clause-may c = may_create (state_answers c.args.state.now) (CreateImage c.args.device c.args.image c.args.format c.args.width c.args.height c.args.usage) c.args.image c.args.device (an_image c.args.format c.args.width c.args.height c.args.usage None) [] c.requires refl

pub returns-clause-ok : goal.returns-clause-ok
unfolding effect_of
returns-clause-ok c =
    subst (λ v. OnOk c.create.result (state_answers c.create.new.self ≡ v))
    (after_one (state_answers c.args.state.now) (CreateImage c.args.device c.args.image c.args.format c.args.width c.args.height c.args.usage) (creates c.args.image c.args.device (an_image c.args.format c.args.width c.args.height c.args.usage None)) refl) c.create.ensures.ok
