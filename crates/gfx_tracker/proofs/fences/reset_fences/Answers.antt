use Rattle.std.proofs.Common.{ap, map, ◌∙◌}
use Rattle.std.specs.Prelude.{fold}
use Rattle.gfx_model.specs.Steps.Step.{unsignals}
use Rattle.gfx_model.specs.Effects.{effect_of}
use Rattle.gfx_model.specs.After.{after}
use Rattle.gfx_tracker.specs.State.{state_answers}
use Rattle.gfx_tracker.proofs.Presented.{fences_have}
use Rattle.gfx_tracker.proofs.fences.reset_fences.Goals as goal

pub unsignal_each-requires : goal.unsignal_each-requires
unsignal_each-requires c = fences_have (state_answers c.args.state.now) (state_answers c.take.new.self) c.args._device c.args.fences.now c.requires c.take.ensures

pub returns : goal.returns
unfolding effect_of
returns c = c.unsignal_each.ensures ∙ ap (λ w. fold after w (map unsignals c.args.fences.now)) c.take.ensures
