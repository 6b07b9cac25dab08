use Rattle.std.proofs.Common.{ℕ, List, ◌++◌, get_or, ap, ◌∙◌}
use Rattle.std.specs.Prelude.{flat_map}
use Rattle.std.proofs.lemmas.Result.{err_from_is_err_and}
use Rattle.gfx_types.specs.declared.lists.Submit.{Submit}
use Rattle.gfx_types.specs.declared.op.Op.{Op}
use Rattle.gfx_model.specs.Checks.Turn.{execute}
use Rattle.gfx_ops.specs.Operations.{listed}
use Rattle.gfx_tracker.specs.State.{state_answers}
use Rattle.gfx_tracker.specs.Operations.{ops_of_turn}
use Rattle.gfx_commands.proofs.Running.{front_kept}
use Rattle.gfx_tracker.proofs.Operated.{flat_next}
use Rattle.gfx_tracker.proofs.expansion.expand_submits.Goals as goal

pub returns-in_err-expand_each-clause-err : goal.returns-in_err-expand_each-clause-err
returns-in_err-expand_each-clause-err c =
    let p = err_from_is_err_and c.from_residual.result c.from_residual.ensures.1 in
    rw p.1 (front_kept c.args.ops.now c.submits.ops _ c.expand_each.new.ops c.submits.invariant c.in_err-expand_each.ensures.err)

pub submits-preserved : goal.submits-preserved
submits-preserved c =
    let v = state_answers c.args.state.now in
    let one : ℕ → List Op = λ cb. listed c.args.with_layouts (ops_of_turn v (execute cb)) in
    let f = λ (s : Submit). flat_map one s.cbs in
    c.in_ok-expand_each.ensures.ok
    ∙ ap (λ xs. c.submits.ops ++ flat_map one xs) c.items.ensures
    ∙ ap (λ s. c.submits.ops ++ f s) c.submit-item.is
    ∙ ap (λ xs. xs ++ f (get_or c.args.submits.now c.submits.submit-index c.submit-item.result)) c.submits.invariant
    ∙ flat_next f c.args.ops.now c.args.submits.now c.submits.submit-index c.submit-item.result c.submits-test.true
