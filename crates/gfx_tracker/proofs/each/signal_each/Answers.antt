use Rattle.std.proofs.Common.{ap, ◌∙◌, take, get_or}
use Rattle.gfx_model.specs.Views.{View}
use Rattle.gfx_ops.proofs.Appending.{all_at}
use Rattle.gfx_tracker.specs.State.{state_answers}
use Rattle.gfx_tracker.specs.Taking.{HasSignal}
use Rattle.gfx_tracker.proofs.Unmoved.{signalled_live, has_signal_along}
use Rattle.gfx_tracker.proofs.each.signal_each.Goals as goal

pub signal-requires : goal.signal-requires
signal-requires c =
    let v = state_answers c.args.state.now in
    let id = get_or c.args.ids.now c.ids.id-index 0 in
    has_signal_along v (state_answers c.ids.state) id
    (ap (λ (w : View). w.live id) c.ids.invariant ∙ signalled_live v (take c.ids.id-index c.args.ids.now) id)
    (all_at (HasSignal v) c.args.ids.now c.ids.id-index 0 c.ids-test.true c.requires)
