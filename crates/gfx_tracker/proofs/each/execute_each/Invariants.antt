use Rattle.std.proofs.Common.{◌≡◌, take, map}
use Rattle.std.specs.Prelude.{fold}
use Rattle.gfx_model.specs.Steps.Step.{executed}
use Rattle.gfx_model.specs.After.{after}
use Rattle.gfx_tracker.specs.State.{state_answers}
use Rattle.gfx_tracker.proofs.each.execute_each.Given as goal

-- the steps so far were taken
abbrev pub invariant-cbs : goal.invariant-cbs
invariant-cbs l = state_answers l.state ≡ fold after (state_answers l.fn.state) (map executed (take l.cb-index l.cbs))
