use Rattle.std.proofs.Common.{◌<◌, ap, subst, sym, ◌∙◌, take, get_or}
use Rattle.gfx_model.specs.Views.{View}
use Rattle.gfx_ops.proofs.Appending.{all_at}
use Rattle.gfx_tracker.specs.State.{state_answers}
use Rattle.gfx_tracker.specs.Taking.{HasIndex}
use Rattle.gfx_tracker.proofs.Unmoved.{gives_back_live, is_live_along, images_along}
use Rattle.gfx_tracker.proofs.each.give_back_each.Goals as goal

pub give_back-requires-clause-live : goal.give_back-requires-clause-live
give_back-requires-clause-live c =
    let v = state_answers c.args.state.now in
    let p = get_or c.args.presents.now c.presents.present-index (record { swapchain = 0; index = 0 }) in
    is_live_along v (state_answers c.presents.state) p.swapchain
    (ap (λ (w : View). w.live p.swapchain) c.presents.invariant ∙ gives_back_live v (take c.presents.present-index c.args.presents.now) p.swapchain)
    (all_at (HasIndex v) c.args.presents.now c.presents.present-index (record { swapchain = 0; index = 0 }) c.presents-test.true c.requires).live

pub give_back-requires-clause-index : goal.give_back-requires-clause-index
give_back-requires-clause-index c =
    let v = state_answers c.args.state.now in
    let p = get_or c.args.presents.now c.presents.present-index (record { swapchain = 0; index = 0 }) in
    subst (λ n. p.index < n)
    (sym (images_along v (state_answers c.presents.state) p.swapchain
    (ap (λ (w : View). w.live p.swapchain) c.presents.invariant ∙ gives_back_live v (take c.presents.present-index c.args.presents.now) p.swapchain)))
    (all_at (HasIndex v) c.args.presents.now c.presents.present-index (record { swapchain = 0; index = 0 }) c.presents-test.true c.requires).below
