use Rattle.std.proofs.Common.{◌++◌, ap, sym, subst, ◌∙◌, map}
use Rattle.std.specs.Prelude.{fold}
use Rattle.std.specs.List.{AllByRecursion}
use Rattle.gfx_model.specs.Steps.Step.{signals, unsignals, executed}
use Rattle.gfx_model.specs.Views.{View}
use Rattle.gfx_model.specs.After.{after}
use Rattle.gfx_tracker.specs.State.{state_answers}
use Rattle.gfx_tracker.specs.Taking.{HasSignal}
use Rattle.gfx_tracker.proofs.Next.{fold-append}
use Rattle.gfx_tracker.proofs.Reordered.{submit_steps}
use Rattle.gfx_tracker.proofs.Unmoved.{unsignals_live, executed_live, all_signals_along}
use Rattle.gfx_tracker.proofs.submits.execute_submit.Goals as goal

pub signal_each-requires : goal.signal_each-requires
signal_each-requires c =
    let v = state_answers c.args.state.now in
    let u = state_answers c.unsignal_each.new.state in
    let w = state_answers c.execute_each.new.state in
    subst (AllByRecursion (HasSignal w)) (sym c.items-3.ensures)
    (all_signals_along v w c.args.submit.now.signals
    (λ x. ap (λ (w : View). w.live x) c.execute_each.ensures ∙ executed_live u c.items-2.result.now x
    ∙ ap (λ (w : View). w.live x) c.unsignal_each.ensures ∙ unsignals_live v c.items.result.now x)
    c.requires.signals)

pub returns : goal.returns
returns c =
    let v = state_answers c.args.state.now in
    let s = c.args.submit.now in
    let a = map unsignals s.waits in
    let b = map executed s.cbs in
    let d = map signals s.signals in
    c.signal_each.ensures
    ∙ ap (λ xs. fold after (state_answers c.execute_each.new.state) (map signals xs)) c.items-3.ensures
    ∙ ap (λ w. fold after w d) (c.execute_each.ensures ∙ ap (λ xs. fold after (state_answers c.unsignal_each.new.state) (map executed xs)) c.items-2.ensures
    ∙ ap (λ w. fold after w b) (c.unsignal_each.ensures ∙ ap (λ xs. fold after v (map unsignals xs)) c.items.ensures)
    ∙ sym (fold-append after v a b))
    ∙ sym (fold-append after v (a ++ b) d)
    ∙ ap (fold after v) (sym (submit_steps s))
