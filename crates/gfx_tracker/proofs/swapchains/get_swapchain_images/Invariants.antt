use Rattle.std.proofs.Common.{◌≡◌, ◌≤◌, ◌+◌, length, take}
use Rattle.std.specs.Prelude.{fold}
use Rattle.gfx_model.specs.After.{after}
use Rattle.gfx_table.specs.Groups.{room_in}
use Rattle.gfx_tracker.specs.State.{state_answers}
use Rattle.gfx_tracker.proofs.Fetching.{fetch_steps}
use Rattle.gfx_tracker.proofs.swapchains.get_swapchain_images.Given as goal

-- the steps so far were taken, and there is room for the others
abbrev pub invariant-images : goal.invariant-images
invariant-images l = record {
  steps : state_answers l.state ≡ fold after (state_answers l.fn.state) (fetch_steps (state_answers l.fn.state) l.swapchain (take l.index l.images));
  spare : length l.images ≤ l.state.registry.objects.spare + l.index;
  owner : length l.images ≤ room_in l.state.registry.objects.owned l.swapchain + l.index;
}
