use Rattle.std.proofs.Common.{◌≡◌, ◌≤◌, ◌+◌, length, take, map}
use Rattle.std.specs.Prelude.{fold}
use Rattle.gfx_model.specs.Steps.Step.{creates}
use Rattle.gfx_model.specs.Steps.Detail.{a_command_buffer}
use Rattle.gfx_model.specs.After.{after}
use Rattle.gfx_table.specs.Groups.{room_in}
use Rattle.gfx_tracker.specs.State.{state_answers}
use Rattle.gfx_tracker.proofs.buffers.allocate_command_buffers.Given as goal

-- the steps so far were taken, and there is room for the others
abbrev pub invariant-buffers : goal.invariant-buffers
invariant-buffers l = record {
  steps : state_answers l.state ≡ fold after (state_answers l.fn.state) (map (λ cb. creates cb l.pool a_command_buffer) (take l.buffer-index l.buffers));
  spare : length l.buffers ≤ l.state.registry.objects.spare + l.buffer-index;
  owner : length l.buffers ≤ room_in l.state.registry.objects.owned l.pool + l.buffer-index;
}
