use Rattle.std.proofs.Common.{ℕ, ◌≤◌, ◌<◌, ◌∷◌, [], ◌++◌, map, ap, subst, sym, append_assoc, ◌∙◌}
use Rattle.std.specs.Prelude.{fold}
use Rattle.gfx_types.specs.declared.lists.Present.{Present}
use Rattle.gfx_types.specs.declared.names.Kind.TheVariants as kind
use Rattle.gfx_model.specs.Steps.Step.{taken, unsignals, gives_back, presents}
use Rattle.gfx_model.specs.Views.{View}
use Rattle.gfx_model.specs.Checks.Check.{live}
use Rattle.gfx_model.specs.Effects.{effect_of}
use Rattle.gfx_model.specs.After.{after}
use Rattle.gfx_model.proofs.Lists.{all_along}
use Rattle.gfx_model.specs.Limits.{max_frame}
use Rattle.gfx_laws.specs.Lawful.{Passes}
use Rattle.gfx_tracker.specs.State.{state_answers}
use Rattle.gfx_tracker.specs.Taking.{HasSignal, HasIndex}
use Rattle.gfx_tracker.proofs.Next.{semaphore_signal, fold-append}
use Rattle.gfx_tracker.proofs.Presented.{present_facts, waits_unsignal}
use Rattle.gfx_tracker.proofs.Unmoved.{live_taken, frame_taken, unsignals_live, unsignals_frame, gives_back_frame, has_signal_along, is_live_along, images_along}
use Rattle.gfx_tracker.proofs.presents.queue_present.Goals as goal

pub unsignal_each-requires : goal.unsignal_each-requires
unsignal_each-requires c =
    let v = state_answers c.args.state.now in
    let w = state_answers c.take.new.self in
    all_along (λ x. Passes v (live kind.Semaphore x)) (HasSignal w)
    (λ x pass. has_signal_along v w x (live_taken v w x c.take.ensures) (semaphore_signal v x pass))
    c.args.waits.now (present_facts v c.args._queue c.args.waits.now c.args.presents.now c.requires).waited

pub give_back_each-requires : goal.give_back_each-requires
give_back_each-requires c =
    let v = state_answers c.args.state.now in
    let u = state_answers c.take.new.self in
    let w = state_answers c.unsignal_each.new.state in
    let same = λ (x : ℕ). ap (λ (w : View). w.live x) c.unsignal_each.ensures ∙ unsignals_live u c.args.waits.now x ∙ live_taken v u x c.take.ensures in
    all_along (HasIndex v) (HasIndex w)
    (λ p has. record {
      live = is_live_along v w p.swapchain (same p.swapchain) has.live;
      below = subst (λ n. p.index < n) (sym (images_along v w p.swapchain (same p.swapchain))) has.below;
    })
    c.args.presents.now (present_facts v c.args._queue c.args.waits.now c.args.presents.now c.requires).shown

pub present-requires : goal.present-requires
present-requires c =
    let v = state_answers c.args.state.now in
    let u = state_answers c.take.new.self in
    let w = state_answers c.unsignal_each.new.state in
    subst (λ n. n ≤ max_frame)
    (sym (ap (λ (w : View). w.next_frame) c.give_back_each.ensures ∙ gives_back_frame w c.args.presents.now
    ∙ ap (λ (w : View). w.next_frame) c.unsignal_each.ensures ∙ unsignals_frame u c.args.waits.now ∙ frame_taken v u c.take.ensures))
    (present_facts v c.args._queue c.args.waits.now c.args.presents.now c.requires).frame

pub returns : goal.returns
unfolding effect_of
returns c =
    let v = state_answers c.args.state.now in
    let a = map unsignals c.args.waits.now in
    let b = map (λ (p : Present). gives_back p.swapchain p.index) c.args.presents.now in
    c.present.ensures
    ∙ ap (λ w. after w presents) (c.give_back_each.ensures ∙ ap (λ w. fold after w b) (c.unsignal_each.ensures ∙ ap (λ w. fold after w a) c.take.ensures))
    ∙ sym (fold-append after (fold after (after v taken) a) b (presents ∷ []))
    ∙ sym (fold-append after (after v taken) a (b ++ presents ∷ []))
    ∙ ap (fold after (after v taken)) (sym (append_assoc a b (presents ∷ [])) ∙ ap (λ a. (a ++ b) ++ presents ∷ []) (sym (waits_unsignal v c.args.waits.now)))
