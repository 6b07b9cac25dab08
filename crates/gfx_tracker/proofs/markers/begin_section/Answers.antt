use Rattle.std.proofs.Common.{refl, ◌∙◌}
use Rattle.gfx_model.specs.Events.Event.{BeginSection}
use Rattle.gfx_model.specs.Steps.Step.{begins_section}
use Rattle.gfx_model.specs.Effects.{effect_of}
use Rattle.gfx_tracker.specs.State.{state_answers}
use Rattle.gfx_tracker.proofs.Next.{after_one}
use Rattle.gfx_tracker.proofs.markers.begin_section.Goals as goal

pub returns : goal.returns
unfolding effect_of
returns c = c.begin_section.ensures ∙ after_one (state_answers c.args.state.now) (BeginSection c.args.frame) (begins_section c.args.frame) refl
