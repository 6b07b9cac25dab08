use Rattle.std.proofs.Common.{◌≡◌, ◌==◌, take, if◌then◌else◌}
use Rattle.std.specs.List.{list_any}
use Rattle.gfx_model.specs.Questions.{new_buffer}
use Rattle.gfx_commands.specs.Recordings.{buffers}
use Rattle.gfx_tracker.proofs.state.reset_each.Given as goal

-- those so far are as new ones
abbrev pub invariant-cbs : goal.invariant-cbs
invariant-cbs l = buffers l.recordings ≡ (λ x. if list_any (λ cb. cb == x) (take l.cb-index l.cbs) then new_buffer else buffers l.fn.recordings x)
