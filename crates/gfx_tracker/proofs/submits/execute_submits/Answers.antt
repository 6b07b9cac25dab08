use Rattle.std.proofs.Common.{ap, sym, subst, ◌∙◌, take}
use Rattle.std.specs.Prelude.{flat_map}
use Rattle.gfx_model.specs.Views.{View}
use Rattle.gfx_model.specs.Checks.{turns_of_submit}
use Rattle.gfx_ops.proofs.Appending.{all_at}
use Rattle.gfx_tracker.specs.State.{state_answers}
use Rattle.gfx_tracker.specs.Submitted.{HasSignals}
use Rattle.gfx_tracker.proofs.Reordered.{turns_live}
use Rattle.gfx_tracker.proofs.Unmoved.{signals_along}
use Rattle.gfx_tracker.proofs.submits.execute_submits.Goals as goal

pub execute_submit-requires : goal.execute_submit-requires
execute_submit-requires c =
    let v = state_answers c.args.state.now in
    signals_along v (state_answers c.submits.state) c.submit-item.result
    (λ x. ap (λ (w : View). w.live x) c.submits.invariant ∙ turns_live v (flat_map turns_of_submit (take c.submits.submit-index c.args.submits.now)) x)
    (subst (HasSignals v) (sym c.submit-item.is) (all_at (HasSignals v) c.args.submits.now c.submits.submit-index c.submit-item.result c.submits-test.true c.requires))
