use Rattle.std.proofs.Common.{◌≡◌, take}
use Rattle.std.specs.Prelude.{flat_map}
use Rattle.gfx_types.specs.declared.lists.Submit.{Submit}
use Rattle.gfx_model.specs.Layouts.{layouts_by}
use Rattle.gfx_tracker.specs.State.{state_answers}
use Rattle.gfx_tracker.proofs.submits.leave_layouts.Given as goal

-- the layouts that the command buffers of the submits so far leave were set
abbrev pub invariant-submits : goal.invariant-submits
invariant-submits l =
    state_answers l.state
    ≡ record (state_answers l.fn.state) { layout = layouts_by (state_answers l.fn.state).buffer (state_answers l.fn.state).layout (flat_map (λ (s : Submit). s.cbs) (take l.submit-index l.submits)) }
