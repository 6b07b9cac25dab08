-- Lists of steps that are ready, one after another.
use Rattle.std.proofs.Common.{◌≡◌, ℕ, ◌<◌, ◌≤◌, arith, length, subst, Bool, true, false, refl, sym, ◌+◌, List, [], ◌∷◌, ◌++◌, map, flat_map, cond, ◌==◌}
use Rattle.std.specs.List.{AllByRecursion}
use Rattle.gfx_model.specs.Steps.{Step}
use Rattle.gfx_model.specs.Steps.Step.{creates, ends, binds, maps, begins, records, finishes, changes, executed, signals, unsignals, acquires, gives_back}
use Rattle.gfx_model.specs.Views.{View, is_live, images_in}
use Rattle.gfx_types.specs.declared.names.Kind.TheVariants as kind
use Rattle.gfx_model.specs.Questions.{passes}
use Rattle.gfx_model.specs.After.{after}
use Rattle.gfx_model.specs.Effects.{marks, signals_any, steps_of_turn}
use Rattle.gfx_model.specs.Checks.Turn.{wait}
use Rattle.gfx_laws.specs.Lawful.{base, has_signal}
use Rattle.gfx_laws.proofs.Ready.{Ready, AllReady, ReadyToChange}
use Rattle.gfx_model.proofs.Lists.{all_append}

-- a step that needs nothing
abbrev pub IsFree : Step → Type 0
IsFree (creates i parent detail) = ⊥
IsFree (ends gone) = ⊥
IsFree (begins cb flags) = ⊥
IsFree (binds r memory offset) = ⊥
IsFree (records cb command) = ⊥
IsFree (finishes cb) = ⊥
IsFree (maps memory offset length) = ⊥
IsFree (signals i) = ⊥
IsFree (acquires swapchain index) = ⊥
IsFree (changes c) = ⊥
IsFree _ = Unit {0}

free_ready : (v : View) (s : Step) → IsFree s → Ready v s
free_ready v (creates i parent detail) f = absurd f
free_ready v (ends gone) f = absurd f
free_ready v (begins cb flags) f = absurd f
free_ready v (binds r memory offset) f = absurd f
free_ready v (records cb command) f = absurd f
free_ready v (finishes cb) f = absurd f
free_ready v (maps memory offset length) f = absurd f
free_ready v (signals i) f = absurd f
free_ready v (acquires swapchain index) f = absurd f
free_ready v (changes c) f = absurd f
free_ready v _ f = tt

pub all_free : (v : View) (ss : List Step) → AllByRecursion IsFree ss → AllReady v ss
all_free v [] a = tt
all_free v (s ∷ ss) a = (free_ready v s a.0, all_free (after v s) ss a.1)

-- steps of executions: changes, signals and what is executed
abbrev pub IsCalm : View → Step → Type 0
IsCalm v (changes c) = ReadyToChange v c
IsCalm v (executed cb) = Unit {0}
IsCalm v (signals i) = passes (λ o. has_signal o.detail) (v.live i) ≡ true
IsCalm v (unsignals i) = Unit {0}
IsCalm v _ = ⊥

pub all_calm : (v : View) (ss : List Step) → AllByRecursion (IsCalm (base v)) ss → AllReady v ss
unfolding after
all_calm v [] a = tt
all_calm v (changes c ∷ ss) a = (a.0, all_calm (after v (changes c)) ss a.1)
all_calm v (executed cb ∷ ss) a = (tt, all_calm (after v (executed cb)) ss a.1)
all_calm v (signals i ∷ ss) a = (a.0, all_calm (after v (signals i)) ss a.1)
all_calm v (unsignals i ∷ ss) a = (tt, all_calm (after v (unsignals i)) ss a.1)
all_calm v (_ ∷ ss) a = absurd a.0

-- marks of the images of a swapchain
marks_from : (v u : View) (swapchain k : ℕ) (xs : List ℕ) → base u ≡ base v → is_live v kind.Swapchain swapchain ≡ true → k + length xs ≤ images_in v swapchain → AllReady u (marks swapchain k xs)
unfolding after
marks_from v u swapchain k [] same there below = tt
marks_from v u swapchain k (x ∷ xs) same there below =
    by (x == 1) (marks_from v (after u (acquires swapchain k)) swapchain (k + 1) xs same there (omega arith))
    (marks_from v (after u (gives_back swapchain k)) swapchain (k + 1) xs same there (omega arith))
  where
    here : (is_live u kind.Swapchain swapchain ≡ true) × (k < images_in u swapchain)
    here = subst (λ (w : View). (is_live w kind.Swapchain swapchain ≡ true) × (k < images_in w swapchain)) (sym same) (there, omega arith)

    by : (t : Bool) → AllReady (after u (acquires swapchain k)) (marks swapchain (k + 1) xs) → AllReady (after u (gives_back swapchain k)) (marks swapchain (k + 1) xs) →
        AllReady u (cond t (acquires swapchain k) (gives_back swapchain k) ∷ marks swapchain (k + 1) xs)
    by true a b = (here, a)
    by false a b = (tt, b)

pub marks_ready : (v : View) (swapchain : ℕ) (xs : List ℕ) → is_live v kind.Swapchain swapchain ≡ true → length xs ≤ images_in v swapchain → AllReady v (marks swapchain 0 xs)
marks_ready v swapchain xs there below = marks_from v v swapchain 0 xs refl there (omega arith)

-- what is signalled has a signal, where there is anything
abbrev pub MaySignal : View → ℕ → Type 0
MaySignal v x = (x == 0) ≡ false → passes (λ o. has_signal o.detail) (v.live x) ≡ true

calm_signals : (v : View) (x : ℕ) → MaySignal v x → AllByRecursion (IsCalm (base v)) (signals_any x)
calm_signals v x may = by (x == 0) may
  where
    by : (t : Bool) → (t ≡ false → passes (λ o. has_signal o.detail) (v.live x) ≡ true) → AllByRecursion (IsCalm (base v)) (cond t [] (signals x ∷ []))
    by true f = tt
    by false f = (f refl, tt)

pub acquire_ready : (v : View) (t : Bool) (swapchain index semaphore fence : ℕ) → (t ≡ false → (is_live v kind.Swapchain swapchain ≡ true) × (index < images_in v swapchain)) → MaySignal v semaphore → MaySignal v fence →
    AllReady v (cond t [] (acquires swapchain index ∷ signals_any semaphore ++ signals_any fence))
unfolding after
acquire_ready v true swapchain index semaphore fence f s t = tt
acquire_ready v false swapchain index semaphore fence f s t = (
  f refl,
  all_calm (after v (acquires swapchain index)) (signals_any semaphore ++ signals_any fence)
      (all_append (IsCalm (base v)) (signals_any semaphore) (signals_any fence) (calm_signals v semaphore s) (calm_signals v fence t)),
)

pub free_waits : (v : View) (waits : List ℕ) → AllByRecursion IsFree (flat_map (steps_of_turn v) (map wait waits))
free_waits v [] = tt
free_waits v (s ∷ ss) = (tt, free_waits v ss)

pub signal_if_ready : (v : View) (t : Bool) (x : ℕ) → passes (λ o. has_signal o.detail) (v.live x) ≡ true → AllReady v (cond t (signals x ∷ []) [])
signal_if_ready v true x e = (e, tt)
signal_if_ready v false x e = tt

pub set_ready : (v : View) (t : Bool) (x : ℕ) → passes (λ o. has_signal o.detail) (v.live x) ≡ true → AllReady v (cond t (signals x) (unsignals x) ∷ [])
set_ready v true x e = (e, tt)
set_ready v false x e = (tt, tt)
