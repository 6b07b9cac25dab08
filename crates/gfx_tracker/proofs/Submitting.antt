-- What follows from the checks of a submit.
use Rattle.std.proofs.Common.{◌≡◌, ℕ, ◌==◌, Bool, true, false, List, [], ◌∷◌, ◌++◌, map, refl, if◌then◌else◌, None, inr}
use Rattle.std.specs.Prelude.{flat_map}
use Rattle.std.specs.List.{AllByRecursion}
use Rattle.gfx_types.specs.declared.lists.Submit.{Submit}
use Rattle.gfx_types.specs.declared.names.Kind.TheVariants as kind
use Rattle.gfx_types.specs.declared.names.Fault.TheVariants.{CommandState, LayoutDiffers}
use Rattle.gfx_model.specs.Events.Event.{QueueSubmit}
use Rattle.gfx_model.specs.Spelling.{id_of}
use Rattle.gfx_model.specs.Questions.{passes}
use Rattle.gfx_model.specs.Views.{View}
use Rattle.gfx_model.specs.Checks.{Turn, broken, first_broken, unless, turns_fault, turns_of, turns_of_submit, layouts_of, layouts_after, meets, but, is_executable}
use Rattle.gfx_model.specs.Checks.Check.{live, near, must, in_turn}
use Rattle.gfx_model.specs.Checks.Turn.{wait, execute, signal}
use Rattle.gfx_model.specs.Table.{place_of, row_of, checks_of, near_each, submit_lengths, submit_near}
use Rattle.gfx_model.specs.Effects.{steps_of_turn}
use Rattle.gfx_model.proofs.Covered.{first_none, unless_none}
use Rattle.gfx_model.proofs.Lists.{all_along}
use Rattle.gfx_laws.specs.Lawful.{base, IsLawful, Passes}
use Rattle.gfx_laws.proofs.Lists.{all_before, all_behind, all_from_flat, all_zip}
use Rattle.gfx_laws.proofs.NewObjects.{all_pass}
use Rattle.gfx_laws.proofs.EventReady.{last_pass}
use Rattle.gfx_laws.proofs.Executions.{SignalsWell, turns_ready}
use Rattle.gfx_laws.proofs.Signals.{all_signals, signal_of_kind}
use Rattle.gfx_laws.proofs.ReadyLists.{IsCalm}
use Rattle.gfx_tracker.specs.Submitted.{IsExecutable, HasSignals}
use Rattle.gfx_tracker.specs.Taking.{HasSignal}
use Rattle.gfx_tracker.proofs.Presented.{all_from_map}

-- ---- executions

-- what a turn executes may be executed
abbrev pub ExecutesWell : View → Turn → Type 0
ExecutesWell v (execute cb) = IsExecutable v cb
ExecutesWell v _ = Unit {0}

turns_execute : (v : View) (s : ℕ → Bool) (f : ℕ → ℕ) (ts : List Turn) → turns_fault v s f ts ≡ None → AllByRecursion (ExecutesWell v) ts
unfolding turns_fault
turns_execute v s f [] e = tt
turns_execute v s f (wait x ∷ ts) e = (tt, turns_execute v (but x false s) f ts (first_none _ _ e).1)
turns_execute v s f (signal x ∷ ts) e = (tt, turns_execute v (but x true s) f ts (first_none _ _ e).1)
turns_execute v s f (execute cb ∷ ts) e =
    let asked = flat_map layouts_of (v.buffer cb).commands in
    let both = first_none (unless (is_executable (v.buffer cb).state) CommandState) _ e in
    let rest = first_none (unless (meets f asked) LayoutDiffers) _ both.1 in
    (unless_none _ _ both.0, turns_execute v s (layouts_after f asked) ts rest.1)

cbs_execute : (v : View) (s : Submit) → AllByRecursion (ExecutesWell v) (turns_of_submit s) → AllByRecursion (IsExecutable v) s.cbs
cbs_execute v s a =
    all_from_map (ExecutesWell v) execute s.cbs
    (all_behind (ExecutesWell v) (map wait s.waits) (map execute s.cbs) (all_before (ExecutesWell v) (map wait s.waits ++ map execute s.cbs) (map signal s.signals) a))

-- ---- signals

waits_live : (v : View) (queue : ℕ) (s : Submit) → AllByRecursion (Passes v) (submit_near queue s) → AllByRecursion (HasSignal v) s.waits
unfolding broken
waits_live v queue s a =
    let waits = near_each kind.Semaphore queue s.waits in
    let cbs = near_each kind.CommandBuffer queue s.cbs in
    let here : AllByRecursion (Passes v) waits = all_before (Passes v) waits cbs (all_before (Passes v) (waits ++ cbs) (near_each kind.Semaphore queue s.signals) a) in
    all_along (λ x. Passes v (live kind.Semaphore x)) (HasSignal v) (λ x e. signal_of_kind 11 (v.live x) (inr refl) (unless_none _ _ e)) s.waits
    (all_from_map (Passes v) (live kind.Semaphore) s.waits (all_before (Passes v) (map (live kind.Semaphore) s.waits) (map (λ y. near y queue) s.waits) here))

signals_live : (v : View) (s : Submit) → AllByRecursion (SignalsWell v) (turns_of_submit s) → AllByRecursion (HasSignal v) s.signals
signals_live v s a = all_from_map (SignalsWell v) signal s.signals (all_behind (SignalsWell v) (map wait s.waits ++ map execute s.cbs) (map signal s.signals) a)

fence_live : (v : View) (fence : ℕ) → AllByRecursion (SignalsWell v) (if fence == 0 then [] else signal fence ∷ []) → (fence == 0) ≡ false → HasSignal v fence
fence_live v fence a other = by (fence == 0) other a
  where
    by : (t : Bool) → t ≡ false → AllByRecursion (SignalsWell v) (if t then [] else signal fence ∷ []) → HasSignal v fence
    by true e a = absurd cc
    by false e a = a.0

-- ---- all of it

-- what the checks of a submit say
pub record SubmitFacts (v : View) (submits : List Submit) (fence : ℕ) : Type 0 where
  pub signals : AllByRecursion (HasSignals v) submits
  pub executable : AllByRecursion (λ s. AllByRecursion (IsExecutable v) s.cbs) submits
  pub of_fence : (fence == 0) ≡ false → HasSignal v fence
  pub calm : IsLawful v [] → AllByRecursion (IsCalm (base v)) (flat_map (steps_of_turn v) (turns_of submits fence))

pub submit_facts : (v : View) (queue : ℕ) (submits : List Submit) (fence : ℕ) → first_broken v (checks_of (QueueSubmit queue submits fence)) ≡ None → SubmitFacts v submits fence
unfolding place_of row_of id_of broken
submit_facts v queue submits fence passes =
    let lengths = flat_map submit_lengths submits in
    let nears = flat_map (submit_near queue) submits in
    let fences = if fence == 0 then [] else live kind.Fence fence ∷ near fence queue ∷ [] in
    let all = (all_pass v (checks_of (QueueSubmit queue submits fence)) passes).1.1.1.1 in
    let front : AllByRecursion (Passes v) (lengths ++ nears ++ fences) = all_before (Passes v) (lengths ++ nears ++ fences) (must CommandState _ ∷ in_turn (turns_of submits fence) ∷ []) all in
    let near_each_of : AllByRecursion (Passes v) nears = all_behind (Passes v) lengths nears (all_before (Passes v) (lengths ++ nears) fences front) in
    let turn = last_pass v (lengths ++ nears ++ fences) _ (in_turn (turns_of submits fence)) all in
    let signalled = all_signals v queue fence submits lengths front in
    let execute_each = turns_execute v v.signalled v.layout (turns_of submits fence) turn in
    let tail = if fence == 0 then [] else signal fence ∷ [] in
    let each_signals = all_from_flat (SignalsWell v) turns_of_submit submits (all_before (SignalsWell v) (flat_map turns_of_submit submits) tail signalled) in
    let each_near = all_from_flat (Passes v) (submit_near queue) submits near_each_of in
    record {
      signals = all_zip (λ s. AllByRecursion (Passes v) (submit_near queue s)) (λ s. AllByRecursion (SignalsWell v) (turns_of_submit s)) (HasSignals v)
          (λ s a b. record { waits = waits_live v queue s a; signals = signals_live v s b }) submits each_near each_signals;
      executable = all_along (λ s. AllByRecursion (ExecutesWell v) (turns_of_submit s)) (λ s. AllByRecursion (IsExecutable v) s.cbs) (cbs_execute v) submits
          (all_from_flat (ExecutesWell v) turns_of_submit submits (all_before (ExecutesWell v) (flat_map turns_of_submit submits) tail execute_each));
      of_fence = fence_live v fence (all_behind (SignalsWell v) (flat_map turns_of_submit submits) tail signalled);
      calm = λ h. turns_ready v h.objects h.buffers v.signalled v.layout (turns_of submits fence) signalled turn;
    }
