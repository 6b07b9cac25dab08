use Rattle.std.proofs.Common.{◌≡◌, ◌==◌, ◌∷◌, [], ◌++◌, Bool, true, false, if◌then◌else◌, ap, ◌∙◌, arith}
use Rattle.std.specs.Prelude.{fold}
use Rattle.std.specs.List.{AllByRecursion}
use Rattle.std.proofs.lemmas.Bool.Decides.{nat_tests}
use Rattle.gfx_types.specs.declared.names.Kind.TheVariants as kind
use Rattle.gfx_model.specs.Events.Event.{AcquireNextImageKHR}
use Rattle.gfx_model.specs.Spelling.{id_of}
use Rattle.gfx_model.specs.Questions.{passes}
use Rattle.gfx_model.specs.Steps.Step.{acquires}
use Rattle.gfx_model.specs.Table.{place_of, row_of, checks_of, to_signal}
use Rattle.gfx_model.specs.Effects.{effect_of, signals_any}
use Rattle.gfx_model.specs.After.{after}
use Rattle.gfx_laws.specs.Lawful.{Passes, has_signal}
use Rattle.gfx_laws.proofs.Lists.{all_before, all_behind}
use Rattle.gfx_laws.proofs.NewObjects.{all_pass}
use Rattle.gfx_tracker.specs.State.{state_answers}
use Rattle.gfx_tracker.proofs.Next.{is_live_by, after_none, after_parts, answer_index, to_signal_live, semaphore_signal, fence_signal, acquires_live, signals_live}
use Rattle.gfx_tracker.proofs.swapchains.acquire_next_image.Goals as goal

pub acquire-requires-clause-live : goal.acquire-requires-clause-live
unfolding place_of row_of id_of
acquire-requires-clause-live c =
    let v = state_answers c.args.state.now in
    is_live_by v kind.Swapchain c.args.swapchain
    (all_pass v (checks_of (AcquireNextImageKHR c.args._device c.args.swapchain c.args.semaphore c.args.fence c.args.index c.args.answer)) c.requires.passes).1.1.0

pub acquire-requires-clause-index : goal.acquire-requires-clause-index
unfolding place_of row_of id_of
acquire-requires-clause-index c =
    let v = state_answers c.args.state.now in
    let all = (all_pass v (checks_of (AcquireNextImageKHR c.args._device c.args.swapchain c.args.semaphore c.args.fence c.args.index c.args.answer)) c.requires.passes).1.1.1.1.1 in
    let test = c.if-answer-eq1.false in
    answer_index v c.args.swapchain c.args.index c.args.answer (let other : (c.args.answer == 1) ≡ false = grind (arith, nat_tests, test) in other)
    (all_behind (Passes v) (to_signal kind.Semaphore c.args._device c.args.semaphore ++ to_signal kind.Fence c.args._device c.args.fence) _ all).1

pub signal_any-requires : goal.signal_any-requires
unfolding place_of row_of id_of
signal_any-requires c not_zero =
    let v = state_answers c.args.state.now in
    let all = (all_pass v (checks_of (AcquireNextImageKHR c.args._device c.args.swapchain c.args.semaphore c.args.fence c.args.index c.args.answer)) c.requires.passes).1.1.1.1.1 in
    let sides : AllByRecursion (Passes v) (to_signal kind.Semaphore c.args._device c.args.semaphore ++ to_signal kind.Fence c.args._device c.args.fence) = all_before (Passes v) _ _ all in
    ap (passes (λ o. has_signal o.detail)) (acquires_live v (state_answers c.acquire.new.self) c.args.swapchain c.args.index c.args.semaphore c.acquire.ensures)
    ∙ semaphore_signal v c.args.semaphore
    (to_signal_live v kind.Semaphore c.args._device c.args.semaphore (all_before (Passes v) (to_signal kind.Semaphore c.args._device c.args.semaphore) _ sides) not_zero)

pub signal_any-requires-else-answer-eq1 : goal.signal_any-requires-else-answer-eq1
unfolding place_of row_of id_of
signal_any-requires-else-answer-eq1 c not_zero =
    let v = state_answers c.args.state.now in
    let w = state_answers c.acquire.new.self in
    let all = (all_pass v (checks_of (AcquireNextImageKHR c.args._device c.args.swapchain c.args.semaphore c.args.fence c.args.index c.args.answer)) c.requires.passes).1.1.1.1.1 in
    let sides : AllByRecursion (Passes v) (to_signal kind.Semaphore c.args._device c.args.semaphore ++ to_signal kind.Fence c.args._device c.args.fence) = all_before (Passes v) _ _ all in
    ap (λ u. passes (λ o. has_signal o.detail) (u.live c.args.fence)) c.signal_any.ensures
    ∙ ap (passes (λ o. has_signal o.detail)) (signals_live w c.args.semaphore c.args.fence ∙ acquires_live v w c.args.swapchain c.args.index c.args.fence c.acquire.ensures)
    ∙ fence_signal v c.args.fence
    (to_signal_live v kind.Fence c.args._device c.args.fence (all_behind (Passes v) (to_signal kind.Semaphore c.args._device c.args.semaphore) (to_signal kind.Fence c.args._device c.args.fence) sides) not_zero)

pub returns-then-answer-eq1 : goal.returns-then-answer-eq1
unfolding effect_of
returns-then-answer-eq1 c =
    let v = state_answers c.args.state.now in
    let test = c.if-answer-eq1.true in
    let is : (c.args.answer == 1) ≡ true = grind (arith, nat_tests, test) in
    c.take.ensures
    ∙ after_none v (AcquireNextImageKHR c.args._device c.args.swapchain c.args.semaphore c.args.fence c.args.index c.args.answer)
    (ap (λ (t : Bool). if t then [] else acquires c.args.swapchain c.args.index ∷ signals_any c.args.semaphore ++ signals_any c.args.fence) is)

pub returns-else-answer-eq1 : goal.returns-else-answer-eq1
unfolding effect_of
returns-else-answer-eq1 c =
    let v = state_answers c.args.state.now in
    let test = c.if-answer-eq1.false in
    let is : (c.args.answer == 1) ≡ false = grind (arith, nat_tests, test) in
    c.signal_any-else-answer-eq1.ensures
    ∙ ap (λ w. fold after w (signals_any c.args.fence)) (c.signal_any.ensures ∙ ap (λ w. fold after w (signals_any c.args.semaphore)) c.acquire.ensures)
    ∙ after_parts v (AcquireNextImageKHR c.args._device c.args.swapchain c.args.semaphore c.args.fence c.args.index c.args.answer)
    (acquires c.args.swapchain c.args.index) (signals_any c.args.semaphore) (signals_any c.args.fence)
    (ap (λ (t : Bool). if t then [] else acquires c.args.swapchain c.args.index ∷ signals_any c.args.semaphore ++ signals_any c.args.fence) is)
