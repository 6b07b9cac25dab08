-- How one event changes the number of the next frame and the open section, and what a valid history says of both.
use Rattle.std.proofs.Common.{◌≡◌, ℕ, ◌+◌, ◌^◌, ◌≤◌, nat_le, ◌&&◌, ◌==◌, true, false, refl, sym, ◌∙◌, ap, subst, List, [], ◌∷◌, ◌++◌, map, Option, Some, None, is_none, arith}
use Rattle.std.specs.Prelude.{fold}
use Rattle.std.specs.Option.{option_map_or}
use Rattle.std.specs.List.{AllByRecursion}
use Rattle.std.proofs.lemmas.Bool.{and_parts, eqb-true}
use Rattle.std.proofs.lemmas.List.Sums.{fold-append}
use Rattle.std.proofs.lemmas.Bool.Decides.{nat_tests}
use Rattle.gfx_types.specs.declared.lists.Present.{Present}
use Rattle.gfx_model.specs.Events.{Event}
use Rattle.gfx_model.specs.Events.Event.{BeginSection, EndSection, QueuePresentKHR}
use Rattle.gfx_model.specs.Steps.{Step}
use Rattle.gfx_model.specs.Steps.Step.{taken, begins_section, ends_section, presents}
use Rattle.gfx_model.specs.Views.{View}
use Rattle.gfx_model.specs.Checks.{Check, broken, is_distinct}
use Rattle.gfx_model.specs.Checks.Check.{in_turn, frame_room, live, index_in, is_acquired, presentable}
use Rattle.gfx_model.specs.Checks.Turn.{wait}
use Rattle.gfx_types.specs.declared.names.Kind.TheVariants as kind
use Rattle.gfx_types.specs.declared.names.Fault.TheVariants.{StateOrder, BadValue, LimitReached}
use Rattle.gfx_model.specs.Spelling.{id_of}
use Rattle.gfx_model.proofs.Covered.{unless_none}
use Rattle.gfx_laws.proofs.NewObjects.{all_pass}
use Rattle.gfx_laws.proofs.EventReady.{last_pass}
use Rattle.gfx_laws.specs.Lawful.{Passes}
use Rattle.gfx_model.specs.Table.{place_of, row_of, checks_of, between, near_each, value}
use Rattle.gfx_model.specs.Effects.{effect_of}
use Rattle.gfx_model.specs.After.{after}
use Rattle.gfx_model.specs.History.{steps, view, fault}
use Rattle.gfx_model.specs.Questions.{next_frame, open_section}
use Rattle.gfx_model.proofs.Steps.{view-event}
use Rattle.gfx_laws.proofs.PlainSteps.{IsQuiet, IsQuietEvent, effect_quiet, given_back, given_back_quiet}

-- the next frame and the open section are as they were
pub record Stays (v w : View) : Type 0 where
  pub frame : w.next_frame ≡ v.next_frame
  pub section : w.section ≡ v.section

quiet_step : (v : View) (s : Step) → IsQuiet s → Stays v (after v s)
unfolding after
quiet_step v (begins_section frame) q = absurd q
quiet_step v ends_section q = absurd q
quiet_step v presents q = absurd q
quiet_step v _ q = record { frame = refl; section = refl }

quiet_steps : (v : View) (ss : List Step) → AllByRecursion IsQuiet ss → Stays v (fold after v ss)
quiet_steps v [] q = record { frame = refl; section = refl }
quiet_steps v (s ∷ ss) q =
    let a = quiet_step v s q.0 in let b = quiet_steps (after v s) ss q.1 in
    record { frame = b.frame ∙ a.frame; section = b.section ∙ a.section }

-- an event that is neither a marker nor a present
pub quiet_event : (e : Event) (h : List Event) → IsQuietEvent e → Stays (view h) (view (e ∷ h))
quiet_event e h q = subst (Stays (view h)) (sym (view-event e h)) (quiet_steps (view h) (taken ∷ effect_of (view h) e) (tt, effect_quiet (view h) e q))

-- a present counts one frame
pub record Counts (v w : View) : Type 0 where
  pub frame : w.next_frame ≡ v.next_frame + 1
  pub section : w.section ≡ v.section

present_steps : (v : View) (waits : List ℕ) (images : List Present) → Counts v (fold after v (taken ∷ given_back v waits images ++ presents ∷ []))
unfolding after
present_steps v waits images =
    let before : List Step = taken ∷ given_back v waits images in
    let quiet = quiet_steps v before (tt, given_back_quiet v waits images) in
    subst (Counts v) (sym (fold-append after v before (presents ∷ []))) (record { frame = ap (λ n. n + 1) quiet.frame; section = quiet.section })

pub present_event : (queue : ℕ) (waits : List ℕ) (images : List Present) (h : List Event) → Counts (view h) (view (QueuePresentKHR queue waits images ∷ h))
unfolding effect_of
present_event queue waits images h = subst (Counts (view h)) (sym (view-event (QueuePresentKHR queue waits images) h)) (present_steps (view h) waits images)

-- markers
pub begun : (frame : ℕ) (h : List Event) → ((view (BeginSection frame ∷ h)).next_frame ≡ frame) × ((view (BeginSection frame ∷ h)).section ≡ Some frame)
unfolding effect_of after
begun frame h = (ap (λ (v : View). v.next_frame) (view-event (BeginSection frame) h), ap (λ (v : View). v.section) (view-event (BeginSection frame) h))

pub ended : (frame : ℕ) (h : List Event) → ((view (EndSection frame ∷ h)).next_frame ≡ (view h).next_frame) × ((view (EndSection frame ∷ h)).section ≡ None)
unfolding effect_of after
ended frame h = (ap (λ (v : View). v.next_frame) (view-event (EndSection frame) h), ap (λ (v : View). v.section) (view-event (EndSection frame) h))

-- at the start no section is open, and the next frame is 1
pub at_start : ((view []).next_frame ≡ 1) × ((view []).section ≡ None)
unfolding steps next_frame open_section
at_start = (refl, refl)

-- after an event the history is not empty
some_step : (v : View) (s : Step) → (after v s).is_empty ≡ false
unfolding after
some_step v taken = refl
some_step v _ = refl

some_steps : (v : View) (ss : List Step) → v.is_empty ≡ false → (fold after v ss).is_empty ≡ false
some_steps v [] some = some
some_steps v (s ∷ ss) some = some_steps (after v s) ss (some_step v s)

pub some_after : (e : Event) (h : List Event) → (view (e ∷ h)).is_empty ≡ false
some_after e h =
    ap (λ (v : View). v.is_empty) (view-event e h) ∙ some_steps (after (view h) taken) (effect_of (view h) e) (some_step (view h) taken)

-- ---- what has no fault

-- the checks of a present before the last two
present_front : (queue : ℕ) (waits : List ℕ) (images : List Present) → List Check
present_front queue waits images =
    live kind.Queue queue ∷ between 0 16 waits ++ near_each kind.Semaphore queue waits
    ++ between 1 8 images ++ near_each kind.Swapchain queue (map (λ p. p.swapchain) images)
    ++ value (is_distinct (map (λ p. p.swapchain) images))
    ∷ map (λ p. index_in p.swapchain p.index) images
    ++ map (λ p. is_acquired p.swapchain p.index) images
    ++ map (λ p. presentable p.swapchain p.index) images

pub present_checks : (queue : ℕ) (waits : List ℕ) (images : List Present) (h : List Event) → fault h (QueuePresentKHR queue waits images) ≡ None →
    ((view h).section ≡ None) × ((view h).next_frame ≤ 2 ^ 62)
unfolding place_of row_of broken id_of present_front
present_checks queue waits images h ok =
    let a = all_pass (view h) (checks_of (QueuePresentKHR queue waits images)) ok in
    let closed : is_none (view h).section ≡ true = unless_none (is_none (view h).section) StateOrder a.0 in
    let last : Passes (view h) frame_room = last_pass (view h) (present_front queue waits images) (in_turn (map wait waits)) frame_room a.1 in
    let room : nat_le (view h).next_frame (2 ^ 62) ≡ true = unless_none (nat_le (view h).next_frame (2 ^ 62)) LimitReached last in
    (no_fault closed, grind (arith, nat_tests, room))
  where
    no_fault : is_none (view h).section ≡ true → (view h).section ≡ None
    no_fault e = by (view h).section e
      where
        by : (o : Option ℕ) → is_none o ≡ true → o ≡ None
        by None e = refl
        by (Some n) e = absurd cc

-- an end marker ends the section that is open
pub end_checks : (frame : ℕ) (h : List Event) → fault h (EndSection frame) ≡ None → (view h).section ≡ Some frame
unfolding place_of row_of broken
end_checks frame h ok =
    let a = all_pass (view h) (checks_of (EndSection frame)) ok in
    by (view h).section (unless_none (option_map_or (λ n. n == frame) (view h).section false) BadValue a.1.0)
  where
    by : (o : Option ℕ) → option_map_or (λ n. n == frame) o false ≡ true → o ≡ Some frame
    by None e = absurd cc
    by (Some n) e = ap Some (eqb-true n frame e)

-- a section begins at the start alone, with a number from 1 on
pub begin_checks : (frame : ℕ) (h : List Event) → fault h (BeginSection frame) ≡ None → ((view h).is_empty ≡ true) × (1 ≤ frame)
unfolding place_of row_of broken
begin_checks frame h ok =
    let a = all_pass (view h) (checks_of (BeginSection frame)) ok in
    let low : nat_le 1 frame ≡ true = (and_parts _ _ (unless_none (nat_le 1 frame && nat_le frame (2 ^ 62)) BadValue a.1.0)).0 in
    (unless_none (view h).is_empty StateOrder a.0, grind (arith, nat_tests, low))
