use Rattle.std.proofs.Common.{◌≡◌, take}
use Rattle.std.specs.Prelude.{fold}
use Rattle.gfx_model.specs.Steps.Step.{taken}
use Rattle.gfx_model.specs.Effects.{marks}
use Rattle.gfx_model.specs.After.{after}
use Rattle.gfx_tracker.specs.State.{state_answers}
use Rattle.gfx_tracker.proofs.metadata.set_swapchain_state.Given as goal

-- the steps so far were taken
abbrev pub invariant-marks : goal.invariant-marks
invariant-marks l = state_answers l.state ≡ fold after (after (state_answers l.fn.state) taken) (marks l.swapchain 0 (take l.index l.acquired))
