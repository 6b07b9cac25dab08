use Rattle.std.proofs.Common.{◌≡◌, ◌+◌, suc, take, get_or, ap, subst, sym, ◌∙◌, arith}
use Rattle.std.specs.Prelude.{fold}
use Rattle.std.proofs.lemmas.List.{take_all}
use Rattle.gfx_model.specs.Events.Event.{GetSwapchainImagesKHR}
use Rattle.gfx_model.specs.Steps.Step.{creates}
use Rattle.gfx_model.specs.Views.{fetched}
use Rattle.gfx_model.specs.After.{after}
use Rattle.gfx_tracker.specs.State.{state_answers}
use Rattle.gfx_tracker.specs.Taking.{MayCreate}
use Rattle.gfx_tracker.proofs.Next.{after_none}
use Rattle.gfx_tracker.proofs.Created.{numbered_next}
use Rattle.gfx_tracker.proofs.Fetching.{none_fetched, fetched_before, fetch_few, fetch_may, fetch_steps, image_of, image_is, after_fetched}
use Rattle.gfx_tracker.proofs.swapchains.get_swapchain_images.Goals as goal

pub returns-then-is_some-clause-ok : goal.returns-then-is_some-clause-ok
returns-then-is_some-clause-ok c =
    let v = state_answers c.args.state.now in
    c.take.ensures
    ∙ after_none v (GetSwapchainImagesKHR c.args._device c.args.swapchain c.args.images.now)
    (fetched_before v c.args._device c.args.swapchain c.args.images.now c.fetched_at.result c.fetched_at.ensures (sym c.is_some.ensures ∙ c.if-is_some.true))

pub overflow_cast-images : goal.overflow_cast-images
overflow_cast-images c =
    let v = state_answers c.args.state.now in
    let none = none_fetched (fetched v c.args.swapchain) c.fetched_at.result c.is_some.result c.fetched_at.ensures c.is_some.ensures c.if-is_some.false in
    let few = fetch_few v c.args._device c.args.swapchain c.args.images.now c.requires none in
    omega arith

pub images-init : goal.images-init
images-init c =
    let room = c.in_ok-reserve.ensures.ok in
    let free = c.in_ok-reserve.ensures.room in
    record { steps = c.in_ok-reserve.ensures.same; spare = omega (arith, room); owner = omega (arith, free) }

pub overflow_cast-detail : goal.overflow_cast-detail
overflow_cast-detail c =
    let v = state_answers c.args.state.now in
    let none = none_fetched (fetched v c.args.swapchain) c.fetched_at.result c.is_some.result c.fetched_at.ensures c.is_some.ensures c.if-is_some.false in
    let few = fetch_few v c.args._device c.args.swapchain c.args.images.now c.requires none in
    let below = c.images-test.true in
    omega arith

pub create_owned-requires-clause-may : goal.create_owned-requires-clause-may
create_owned-requires-clause-may c =
    let v = state_answers c.args.state.now in
    let ids = c.args.images.now in
    let i = c.images.index in
    let shape = c.shape_of-format in
    let none = none_fetched (fetched v c.args.swapchain) c.fetched_at.result c.is_some.result c.fetched_at.ensures c.is_some.ensures c.if-is_some.false in
    let is = image_is v c.args.swapchain i shape.result.format shape.result.width shape.result.height shape.result.usage shape.ensures.format shape.ensures.width shape.ensures.height shape.ensures.usage in
    subst (λ d. MayCreate (state_answers c.images.state) (get_or ids i 0) d) (sym is)
    (subst (λ w. MayCreate w (get_or ids i 0) (image_of v c.args.swapchain (0 + i))) (sym c.images.invariant.steps)
    (fetch_may v c.args._device c.args.swapchain ids i c.requires none c.images-test.true))

pub create_owned-requires-clause-spare : goal.create_owned-requires-clause-spare
create_owned-requires-clause-spare c =
    let room = c.images.invariant.spare in
    let below = c.images-test.true in
    omega (arith, room, below)

pub create_owned-requires-clause-owner : goal.create_owned-requires-clause-owner
create_owned-requires-clause-owner c =
    let room = c.images.invariant.owner in
    let below = c.images-test.true in
    omega (arith, room, below)

pub images-preserved : goal.images-preserved
images-preserved c =
    let v = state_answers c.args.state.now in
    let ids = c.args.images.now in
    let i = c.images.index in
    let shape = c.shape_of-format in
    let is = image_is v c.args.swapchain i shape.result.format shape.result.width shape.result.height shape.result.usage shape.ensures.format shape.ensures.width shape.ensures.height shape.ensures.usage in
    let room = c.images.invariant.spare in
    let left = c.create_owned.ensures.spare in
    let free = c.images.invariant.owner in
    let still = c.create_owned.ensures.owner in
    record {
      steps = c.create_owned.ensures.step
          ∙ ap (λ d. after (state_answers c.images.state) (creates (get_or ids i 0) c.args.swapchain d)) is
          ∙ ap (λ w. after w (creates (get_or ids i 0) c.args.swapchain (image_of v c.args.swapchain (0 + i)))) c.images.invariant.steps
          ∙ numbered_next (image_of v c.args.swapchain) v c.args.swapchain 0 ids i c.images-test.true
          ∙ ap (λ n. fold after v (fetch_steps v c.args.swapchain (take n ids))) (let e : suc i ≡ i + 1 = omega arith in e);
      spare = omega (arith, room, left);
      owner = omega (arith, free, still);
    }

pub returns-clause-ok : goal.returns-clause-ok
returns-clause-ok c =
    let v = state_answers c.args.state.now in
    let none = none_fetched (fetched v c.args.swapchain) c.fetched_at.result c.is_some.result c.fetched_at.ensures c.is_some.ensures c.if-is_some.false in
    c.images.invariant.steps
    ∙ ap (λ xs. fold after v (fetch_steps v c.args.swapchain xs)) (take_all c.images.index c.args.images.now c.images-test.false)
    ∙ after_fetched v c.args._device c.args.swapchain c.args.images.now c.requires none
