use Rattle.std.proofs.Common.{slice_index_or, ap, sym, subst, ◌∙◌}
use Rattle.gfx_model.specs.Views.{View}
use Rattle.gfx_model.specs.Checks.{layouts_after}
use Rattle.gfx_model.specs.Layouts.{asked_in}
use Rattle.gfx_ops.proofs.Appending.{all_at}
use Rattle.gfx_tracker.specs.State.{state_answers}
use Rattle.gfx_tracker.specs.Submitted.{SetLayoutsOfLive}
use Rattle.gfx_tracker.proofs.Operated.{layouts_next}
use Rattle.gfx_tracker.proofs.submits.leave_layouts_each.Goals as goal

pub leave_layouts-requires : goal.leave_layouts-requires
leave_layouts-requires c =
    let v = state_answers c.args.state.now in
    subst (λ w. SetLayoutsOfLive w (slice_index_or c.args.cbs.now c.cbs.cb-index 0)) (sym c.cbs.invariant)
    (all_at (SetLayoutsOfLive v) c.args.cbs.now c.cbs.cb-index 0 c.cbs-test.true c.requires)

pub cbs-preserved : goal.cbs-preserved
cbs-preserved c =
    let v = state_answers c.args.state.now in
    c.leave_layouts.ensures
    ∙ ap (λ (w : View). record w { layout = layouts_after w.layout (asked_in w.buffer (slice_index_or c.args.cbs.now c.cbs.cb-index 0)) }) c.cbs.invariant
    ∙ ap (λ f. record v { layout = f }) (layouts_next v.buffer v.layout c.args.cbs.now c.cbs.cb-index 0 c.cbs-test.true)
