use Rattle.std.proofs.Common.{ap, sym, subst, ◌∙◌, map}
use Rattle.std.specs.Prelude.{fold, flat_map}
use Rattle.std.specs.List.{AllByRecursion}
use Rattle.gfx_types.specs.declared.lists.Submit.{Submit}
use Rattle.gfx_model.specs.Views.{View}
use Rattle.gfx_model.specs.Checks.{turns_of_submit}
use Rattle.gfx_model.specs.Layouts.{layouts_by}
use Rattle.gfx_model.specs.Effects.{signals_any}
use Rattle.gfx_model.specs.After.{after}
use Rattle.gfx_model.proofs.Lists.{all_along}
use Rattle.gfx_tracker.specs.State.{state_answers}
use Rattle.gfx_tracker.specs.Submitted.{own_step, HasSignals, SetLayoutsOfLive}
use Rattle.gfx_tracker.proofs.Submitting.{submit_facts}
use Rattle.gfx_tracker.proofs.Reordered.{turns_live}
use Rattle.gfx_tracker.proofs.Leaving.{layouts_of_live, live_along}
use Rattle.gfx_tracker.proofs.Operated.{after_submit}
use Rattle.gfx_tracker.proofs.Unmoved.{live_taken, has_signal_along, signals_along}
use Rattle.gfx_tracker.proofs.submits.queue_submit.Goals as goal

pub leave_layouts-requires : goal.leave_layouts-requires
leave_layouts-requires c =
    let v = state_answers c.args.state.now in
    subst (λ w. AllByRecursion (λ (s : Submit). AllByRecursion (SetLayoutsOfLive w) s.cbs) c.args.submits.now) (sym c.take.ensures)
    (live_along v c.args.submits.now
    (layouts_of_live v c.args.submits.now c.args.fence c.requires.lawful (submit_facts v c.args._queue c.args.submits.now c.args.fence c.requires.passes).calm))

pub execute_submits-requires : goal.execute_submits-requires
execute_submits-requires c =
    let v = state_answers c.args.state.now in
    let u = state_answers c.take.new.self in
    let w = state_answers c.leave_layouts.new.state in
    all_along (HasSignals v) (HasSignals w) (λ s. signals_along v w s (λ x. ap (λ (w : View). w.live x) c.leave_layouts.ensures ∙ live_taken v u x c.take.ensures)) c.args.submits.now
    (submit_facts v c.args._queue c.args.submits.now c.args.fence c.requires.passes).signals

pub signal_any-requires : goal.signal_any-requires
signal_any-requires c not_zero =
    let v = state_answers c.args.state.now in
    let t = state_answers c.take.new.self in
    let u = state_answers c.leave_layouts.new.state in
    let w = state_answers c.execute_submits.new.state in
    let x = c.args.fence in
    has_signal_along v w x
    (ap (λ (w : View). w.live x) c.execute_submits.ensures ∙ turns_live u (flat_map turns_of_submit c.args.submits.now) x
    ∙ ap (λ (w : View). w.live x) c.leave_layouts.ensures ∙ live_taken v t x c.take.ensures)
    ((submit_facts v c.args._queue c.args.submits.now c.args.fence c.requires.passes).of_fence not_zero)

pub returns : goal.returns
returns c =
    let v = state_answers c.args.state.now in
    let submits = c.args.submits.now in
    let fence = c.args.fence in
    let live = layouts_of_live v submits fence c.requires.lawful (submit_facts v c.args._queue submits fence c.requires.passes).calm in
    c.signal_any.ensures
    ∙ ap (λ w. fold after w (signals_any fence))
    (c.execute_submits.ensures
    ∙ ap (λ w. fold after w (map own_step (flat_map turns_of_submit submits)))
    (c.leave_layouts.ensures ∙ ap (λ (w : View). record w { layout = layouts_by w.buffer w.layout (flat_map (λ (s : Submit). s.cbs) submits) }) c.take.ensures))
    ∙ after_submit v c.args._queue submits fence live
