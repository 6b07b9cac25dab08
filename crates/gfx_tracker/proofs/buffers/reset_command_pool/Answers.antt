use Rattle.std.proofs.Common.{refl, ◌∙◌}
use Rattle.gfx_model.specs.Events.Event.{ResetCommandPool}
use Rattle.gfx_model.specs.Steps.Step.{resets_pool}
use Rattle.gfx_model.specs.Effects.{effect_of}
use Rattle.gfx_tracker.specs.State.{state_answers}
use Rattle.gfx_tracker.proofs.Next.{after_one}
use Rattle.gfx_tracker.proofs.buffers.reset_command_pool.Goals as goal

pub returns : goal.returns
unfolding effect_of
returns c = c.reset_pool.ensures ∙ after_one (state_answers c.args.state.now) (ResetCommandPool c.args._device c.args.pool) (resets_pool c.args.pool) refl
