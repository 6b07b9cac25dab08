use Rattle.std.proofs.Common.{◌≡◌, take}
use Rattle.std.specs.List.{list_any}
use Rattle.gfx_model.specs.Questions.{invalidated}
use Rattle.gfx_commands.specs.Recording.{names}
use Rattle.gfx_commands.specs.Recordings.{buffers}
use Rattle.gfx_tracker.proofs.state.invalidate_each.Given as goal

-- those that name one of the resources so far are invalid
abbrev pub invariant-resources : goal.invariant-resources
invariant-resources l =
    buffers l.recordings ≡ (λ x. invalidated (list_any (λ r. names r (buffers l.fn.recordings x)) (take l.resource-index l.resources)) (buffers l.fn.recordings x))
