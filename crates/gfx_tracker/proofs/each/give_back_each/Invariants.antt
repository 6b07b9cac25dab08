use Rattle.std.proofs.Common.{◌≡◌, take, map}
use Rattle.std.specs.Prelude.{fold}
use Rattle.gfx_model.specs.Steps.Step.{gives_back}
use Rattle.gfx_model.specs.After.{after}
use Rattle.gfx_tracker.specs.State.{state_answers}
use Rattle.gfx_tracker.proofs.each.give_back_each.Given as goal

-- the steps so far were taken
abbrev pub invariant-presents : goal.invariant-presents
invariant-presents l = state_answers l.state ≡ fold after (state_answers l.fn.state) (map (λ p. gives_back p.swapchain p.index) (take l.present-index l.presents))
