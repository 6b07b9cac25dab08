use Rattle.std.proofs.Common.{◌≡◌, refl, subst, [], OnOk}
use Rattle.gfx_model.specs.Events.Event.{CreateCommandPool}
use Rattle.gfx_model.specs.Steps.Detail.{a_pool}
use Rattle.gfx_model.specs.Steps.Step.{creates}
use Rattle.gfx_model.specs.Effects.{effect_of}
use Rattle.gfx_tracker.specs.State.{state_answers}
use Rattle.gfx_tracker.proofs.Next.{may_create, after_one}
use Rattle.gfx_tracker.proofs.creations.create_command_pool.Goals as goal

pub create-requires-clause-may : goal.create-requires-clause-may
unfolding effect_of
create-requires-clause-may c = may_create (state_answers c.args.state.now) (CreateCommandPool c.args.device c.args.pool c.args.flags) c.args.pool c.args.device (a_pool c.args.flags) [] c.requires refl

pub returns-clause-ok : goal.returns-clause-ok
unfolding effect_of
returns-clause-ok c =
    subst (λ v. OnOk c.create.result (state_answers c.create.new.self ≡ v))
    (after_one (state_answers c.args.state.now) (CreateCommandPool c.args.device c.args.pool c.args.flags) (creates c.args.pool c.args.device (a_pool c.args.flags)) refl) c.create.ensures.ok
