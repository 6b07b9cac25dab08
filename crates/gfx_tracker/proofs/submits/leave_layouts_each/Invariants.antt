use Rattle.std.proofs.Common.{◌≡◌, take}
use Rattle.gfx_model.specs.Layouts.{layouts_by}
use Rattle.gfx_tracker.specs.State.{state_answers}
use Rattle.gfx_tracker.proofs.submits.leave_layouts_each.Given as goal

-- the layouts that the command buffers so far leave were set
abbrev pub invariant-cbs : goal.invariant-cbs
invariant-cbs l =
    state_answers l.state ≡ record (state_answers l.fn.state) { layout = layouts_by (state_answers l.fn.state).buffer (state_answers l.fn.state).layout (take l.cb-index l.cbs) }
