use Rattle.std.proofs.Common.{◌≡◌, take, map}
use Rattle.std.specs.Prelude.{fold, flat_map}
use Rattle.gfx_model.specs.Checks.{turns_of_submit}
use Rattle.gfx_model.specs.After.{after}
use Rattle.gfx_tracker.specs.State.{state_answers}
use Rattle.gfx_tracker.specs.Submitted.{own_step}
use Rattle.gfx_tracker.proofs.submits.execute_submits.Given as goal

-- the turns of the submits so far were taken
abbrev pub invariant-submits : goal.invariant-submits
invariant-submits l = state_answers l.state ≡ fold after (state_answers l.fn.state) (map own_step (flat_map turns_of_submit (take l.submit-index l.submits)))
