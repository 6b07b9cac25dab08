use Rattle.std.proofs.Common.{◌≡◌, ℕ, ◌+◌, suc, List, take, get_or, refl, ap, ◌∙◌, arith}
use Rattle.std.specs.Prelude.{fold}
use Rattle.std.proofs.lemmas.List.{take_all}
use Rattle.gfx_model.specs.Steps.Step.{taken}
use Rattle.gfx_model.specs.Effects.{effect_of, marks}
use Rattle.gfx_model.specs.Views.{View}
use Rattle.gfx_model.specs.After.{after}
use Rattle.gfx_tracker.specs.State.{state_answers}
use Rattle.gfx_tracker.proofs.Marking.{mark, marks_next, marks_live, mark_facts}
use Rattle.gfx_tracker.proofs.Unmoved.{is_live_along, images_along, live_taken}
use Rattle.gfx_tracker.proofs.metadata.set_swapchain_state.Goals as goal

pub marks-init : goal.marks-init
marks-init c = c.take.ensures

pub overflow_cast-index : goal.overflow_cast-index
overflow_cast-index c =
    let few = (mark_facts (state_answers c.args.state.now) c.args.swapchain c.args.acquired.now c.requires).few in
    let below = c.marks-test.true in
    omega arith

live_so_far : (w v : View) (swapchain : ℕ) (xs : List ℕ) → w ≡ fold after (after v taken) (marks swapchain 0 xs) → w.live swapchain ≡ v.live swapchain
live_so_far w v swapchain xs is = ap (λ (w : View). w.live swapchain) is ∙ marks_live (after v taken) swapchain 0 xs swapchain ∙ live_taken v (after v taken) swapchain refl

pub set_mark-requires-clause-live : goal.set_mark-requires-clause-live
set_mark-requires-clause-live c =
    let v = state_answers c.args.state.now in
    let w = state_answers c.marks.state in
    is_live_along v w c.args.swapchain (live_so_far w v c.args.swapchain (take c.marks.index c.args.acquired.now) c.marks.invariant) (mark_facts v c.args.swapchain c.args.acquired.now c.requires).live

pub set_mark-requires-clause-index : goal.set_mark-requires-clause-index
set_mark-requires-clause-index c =
    let v = state_answers c.args.state.now in
    let w = state_answers c.marks.state in
    let same = images_along v w c.args.swapchain (live_so_far w v c.args.swapchain (take c.marks.index c.args.acquired.now) c.marks.invariant) in
    let each = (mark_facts v c.args.swapchain c.args.acquired.now c.requires).each in
    let below = c.marks-test.true in
    omega arith

pub marks-preserved : goal.marks-preserved
marks-preserved c =
    let w = after (state_answers c.args.state.now) taken in
    let acquired = c.args.acquired.now in
    c.set_mark.ensures
    ∙ ap (λ u. after u (mark c.args.swapchain c.marks.index (get_or acquired c.marks.index 0))) c.marks.invariant
    ∙ ap (λ n. after (fold after w (marks c.args.swapchain 0 (take c.marks.index acquired))) (mark c.args.swapchain n (get_or acquired c.marks.index 0))) (let e : c.marks.index ≡ 0 + c.marks.index = omega arith in e)
    ∙ marks_next w c.args.swapchain 0 acquired c.marks.index c.marks-test.true
    ∙ ap (λ n. fold after w (marks c.args.swapchain 0 (take n acquired))) (let e : suc c.marks.index ≡ c.marks.index + 1 = omega arith in e)

pub returns : goal.returns
unfolding effect_of
returns c =
    c.marks.invariant ∙ ap (λ xs. fold after (after (state_answers c.args.state.now) taken) (marks c.args.swapchain 0 xs)) (take_all c.marks.index c.args.acquired.now c.marks-test.false)
