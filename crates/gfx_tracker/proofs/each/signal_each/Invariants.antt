use Rattle.std.proofs.Common.{◌≡◌, take, map}
use Rattle.std.specs.Prelude.{fold}
use Rattle.gfx_model.specs.Steps.Step.{signals}
use Rattle.gfx_model.specs.After.{after}
use Rattle.gfx_tracker.specs.State.{state_answers}
use Rattle.gfx_tracker.proofs.each.signal_each.Given as goal

-- the steps so far were taken
abbrev pub invariant-ids : goal.invariant-ids
invariant-ids l = state_answers l.state ≡ fold after (state_answers l.fn.state) (map signals (take l.id-index l.ids))
