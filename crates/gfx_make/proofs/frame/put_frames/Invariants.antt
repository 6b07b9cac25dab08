use Rattle.std.proofs.Common.{◌≡◌, ◌++◌}
use Rattle.std.specs.Prelude.{flat_map}
use Rattle.std.specs.List.{range_with_len}
use Rattle.gfx_make.specs.Made.{blocks, frame_events}
use Rattle.gfx_make.proofs.frame.put_frames.Given as goal

-- the frames so far
abbrev pub invariant-frames : goal.invariant-frames
invariant-frames l = l.out.items ≡ l.fn.out.items ++ blocks (flat_map frame_events (range_with_len 1 l.done))
