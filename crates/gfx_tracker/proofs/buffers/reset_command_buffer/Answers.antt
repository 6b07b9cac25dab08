use Rattle.std.proofs.Common.{refl, ◌∙◌}
use Rattle.gfx_model.specs.Events.Event.{ResetCommandBuffer}
use Rattle.gfx_model.specs.Steps.Step.{resets}
use Rattle.gfx_model.specs.Effects.{effect_of}
use Rattle.gfx_tracker.specs.State.{state_answers}
use Rattle.gfx_tracker.proofs.Next.{after_one}
use Rattle.gfx_tracker.proofs.buffers.reset_command_buffer.Goals as goal

pub returns : goal.returns
unfolding effect_of
returns c = c.reset.ensures ∙ after_one (state_answers c.args.state.now) (ResetCommandBuffer c.args.cb) (resets c.args.cb) refl
