use Rattle.std.proofs.Common.{refl, ◌∙◌}
use Rattle.gfx_model.specs.Events.Event.{EndSection}
use Rattle.gfx_model.specs.Steps.Step.{ends_section}
use Rattle.gfx_model.specs.Effects.{effect_of}
use Rattle.gfx_tracker.specs.State.{state_answers}
use Rattle.gfx_tracker.proofs.Next.{after_one}
use Rattle.gfx_tracker.proofs.markers.end_section.Goals as goal

pub returns : goal.returns
unfolding effect_of
returns c = c.end_section.ensures ∙ after_one (state_answers c.args.state.now) (EndSection c.args._frame) ends_section refl
