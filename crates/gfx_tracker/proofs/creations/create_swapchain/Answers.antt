use Rattle.std.proofs.Common.{◌≡◌, refl, subst, [], OnOk}
use Rattle.gfx_model.specs.Events.Event.{CreateSwapchainKHR}
use Rattle.gfx_model.specs.Steps.Detail.{a_swapchain}
use Rattle.gfx_model.specs.Steps.Step.{creates}
use Rattle.gfx_model.specs.Effects.{effect_of}
use Rattle.gfx_tracker.specs.State.{state_answers}
use Rattle.gfx_tracker.proofs.Next.{may_create, after_one}
use Rattle.gfx_tracker.proofs.creations.create_swapchain.Goals as goal

pub create-requires-clause-may : goal.create-requires-clause-may
unfolding effect_of
create-requires-clause-may c = may_create (state_answers c.args.state.now) (CreateSwapchainKHR c.args.device c.args.swapchain c.args.surface c.args.images c.args.format c.args.width c.args.height c.args.usage) c.args.swapchain c.args.device (a_swapchain c.args.surface c.args.images c.args.format c.args.width c.args.height c.args.usage) [] c.requires refl

pub returns-clause-ok : goal.returns-clause-ok
unfolding effect_of
returns-clause-ok c =
    subst (λ v. OnOk c.create.result (state_answers c.create.new.self ≡ v))
    (after_one (state_answers c.args.state.now) (CreateSwapchainKHR c.args.device c.args.swapchain c.args.surface c.args.images c.args.format c.args.width c.args.height c.args.usage) (creates c.args.swapchain c.args.device (a_swapchain c.args.surface c.args.images c.args.format c.args.width c.args.height c.args.usage)) refl) c.create.ensures.ok
