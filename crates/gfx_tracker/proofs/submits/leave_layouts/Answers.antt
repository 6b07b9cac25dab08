use Rattle.std.proofs.Common.{ℕ, List, ap, sym, subst, ◌∙◌}
use Rattle.std.specs.List.{AllByRecursion}
use Rattle.gfx_types.specs.declared.lists.Submit.{Submit}
use Rattle.gfx_model.specs.Views.{View}
use Rattle.gfx_model.specs.Layouts.{layouts_by}
use Rattle.gfx_ops.proofs.Appending.{all_at}
use Rattle.gfx_tracker.specs.State.{state_answers}
use Rattle.gfx_tracker.specs.Submitted.{SetLayoutsOfLive}
use Rattle.gfx_tracker.proofs.Operated.{layouts_more}
use Rattle.gfx_tracker.proofs.submits.leave_layouts.Goals as goal

pub leave_layouts_each-requires : goal.leave_layouts_each-requires
leave_layouts_each-requires c =
    let v = state_answers c.args.state.now in
    let P : Submit → Type 0 = λ s. AllByRecursion (SetLayoutsOfLive v) s.cbs in
    subst (λ w. AllByRecursion (SetLayoutsOfLive w) c.items.result.now) (sym c.submits.invariant)
    (subst (AllByRecursion (SetLayoutsOfLive v)) (sym c.items.ensures)
    (subst P (sym c.submit-item.is) (all_at P c.args.submits.now c.submits.submit-index c.submit-item.result c.submits-test.true c.requires)))

pub submits-preserved : goal.submits-preserved
submits-preserved c =
    let v = state_answers c.args.state.now in
    c.leave_layouts_each.ensures
    ∙ ap (λ (xs : List ℕ). record (state_answers c.submits.state) { layout = layouts_by (state_answers c.submits.state).buffer (state_answers c.submits.state).layout xs }) c.items.ensures
    ∙ ap (λ (w : View). record w { layout = layouts_by w.buffer w.layout c.submit-item.result.cbs }) c.submits.invariant
    ∙ ap (λ f. record v { layout = f }) (layouts_more v.buffer v.layout c.args.submits.now c.submits.submit-index c.submit-item.result c.submits-test.true c.submit-item.is)
