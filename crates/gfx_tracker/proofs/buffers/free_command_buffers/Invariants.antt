use Rattle.std.proofs.Common.{◌≡◌, take, map}
use Rattle.std.specs.Prelude.{fold}
use Rattle.gfx_model.specs.Steps.Step.{ends}
use Rattle.gfx_model.specs.After.{after}
use Rattle.gfx_tracker.specs.State.{state_answers}
use Rattle.gfx_tracker.proofs.buffers.free_command_buffers.Given as goal

-- the steps so far were taken
abbrev pub invariant-buffers : goal.invariant-buffers
invariant-buffers l = state_answers l.state ≡ fold after (state_answers l.fn.state) (map ends (take l.buffer-index l.buffers))
