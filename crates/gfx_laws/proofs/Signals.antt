-- Maps and signals are ready.
use Rattle.std.proofs.Common.{◌≡◌, ℕ, ◌+◌, ◌<◌, Bool, true, false, refl, ◌∙◌, ap, List, [], ◌∷◌, ◌++◌, map, flat_map, Option, Some, None, cond, ◌||◌, ◌==◌, nat_lt, ◌-◌, arith, inl, inr, ◌⊎◌}
use Rattle.std.specs.List.{AllByRecursion}
use Rattle.std.proofs.lemmas.Bool.{eqb-true, leb-true, ltb-true, both_ways, or_left, or_right}
use Rattle.gfx_types.specs.declared.names.Kind.{Kind}
use Rattle.gfx_types.specs.declared.names.Kind.TheVariants as kind
use Rattle.gfx_types.specs.declared.lists.Submit.{Submit}
use Rattle.gfx_model.specs.Steps.{Object, Detail, kind_of, kind_number}
use Rattle.gfx_model.specs.Steps.Detail.{a_fence, a_semaphore}
use Rattle.gfx_model.specs.Questions.{passes}
use Rattle.gfx_model.specs.Views.{View, is_live, size_of, images_in}
use Rattle.gfx_model.specs.Checks.{Check, broken, turns_of, turns_of_submit}
use Rattle.gfx_model.specs.Checks.Check.{near, of, ends_in, unmapped, unsignalled, index_in, not_acquired, all_acquired}
use Rattle.gfx_model.specs.Checks.Turn.{wait, execute, signal}
use Rattle.gfx_model.specs.Table.{is_positive, value, whole, to_signal, acquire_answer, submit_near, near_each}
use Rattle.gfx_model.proofs.Covered.{unless_none}
use Rattle.gfx_laws.specs.Lawful.{base, IsKind, has_signal, IsRangeOf, Passes}
use Rattle.gfx_model.proofs.Lists.{all_append, all_along, all_map}
use Rattle.gfx_laws.proofs.Lists.{all_before, all_behind, all_into_flat, all_into_map, all_from_flat}
use Rattle.gfx_laws.proofs.ReadyLists.{MaySignal}
use Rattle.gfx_laws.proofs.Executions.{SignalsWell}

-- ---- maps and signals

pub map_ready : (v : View) (memory offset size : ℕ) → is_live v kind.Memory memory ≡ true → is_positive size ≡ true → nat_lt offset (size_of v memory) ≡ true →
    AllByRecursion (Passes v) (cond (size == whole) [] (ends_in memory (offset + size) ∷ []) ++ unmapped memory ∷ []) →
    IsRangeOf (base v) memory (record { offset = offset; length = cond (size == whole) (size_of v memory - offset) size })
unfolding broken
map_ready v memory offset size there positive begins a = by (size == whole) a
  where
    low : offset < size_of v memory
    low = ltb-true offset (size_of v memory) begins

    by : (t : Bool) → AllByRecursion (Passes v) (cond t [] (ends_in memory (offset + size) ∷ []) ++ unmapped memory ∷ []) →
        IsRangeOf (base v) memory (record { offset = offset; length = cond t (size_of v memory - offset) size })
    by true a = record { is_memory = there; begins = low; positive = omega (arith, low); ends = omega (arith, low) }
    by false a = record { is_memory = there; begins = low; positive = leb-true 1 size positive; ends = leb-true (offset + size) (size_of v memory) (unless_none _ _ a.0) }

-- fences and semaphores
pub signal_of_kind : (n : ℕ) (l : Option Object) → ((n == 10) ≡ true) ⊎ ((n == 11) ≡ true) → passes (λ o. kind_number (kind_of o.detail) == n) l ≡ true → passes (λ o. has_signal o.detail) l ≡ true
signal_of_kind n None k e = absurd (cc)
signal_of_kind n (Some o) k e = by o.detail e
  where
    is_one_of : ℕ → Bool
    is_one_of m = (m == 10) || (m == 11)

    wanted : is_one_of n ≡ true
    wanted = elim k [ inl a ↦ or_left (n == 10) (n == 11) a | inr b ↦ or_right (n == 10) (n == 11) b ]

    no : (m : ℕ) → is_one_of m ≡ false → (m == n) ≡ true → ⊥
    no m f e = both_ways (is_one_of m) f (ap is_one_of (eqb-true m n e) ∙ wanted)

    by : (d : Detail) → (kind_number (kind_of d) == n) ≡ true → has_signal d ≡ true
    by a_fence e = refl
    by a_semaphore e = refl
    by _ e = absurd (no _ refl e)

pub signalled_by : (v : View) (k : Kind) (device x : ℕ) → ((kind_number k == 10) ≡ true) ⊎ ((kind_number k == 11) ≡ true) → AllByRecursion (Passes v) (to_signal k device x) → MaySignal v x
unfolding broken
signalled_by v k device x is a other =
    signal_of_kind (kind_number k) (v.live x) is (unless_none _ _ (at (x == 0) other a))
  where
    at : (t : Bool) → t ≡ false → AllByRecursion (Passes v) (cond t [] (Check.live k x ∷ of x device ∷ unsignalled x ∷ [])) → Passes v (Check.live k x)
    at true f a = absurd (cc)
    at false f a = a.0

pub acquired_index : (v : View) (swapchain index answer : ℕ) → AllByRecursion (Passes v) (acquire_answer swapchain index answer) → (answer == 1) ≡ false → index < images_in v swapchain
unfolding broken
acquired_index v swapchain index answer a other = ltb-true index (images_in v swapchain) (unless_none _ _ (at (answer == 1) other a))
  where
    at : (t : Bool) → t ≡ false → AllByRecursion (Passes v) (cond t (value (index == 0) ∷ all_acquired swapchain ∷ []) (index_in swapchain index ∷ not_acquired swapchain index ∷ [])) → Passes v (index_in swapchain index)
    at true f a = absurd (cc)
    at false f a = a.0

-- the signals of submits are of semaphores, and the fence is one
each_live : (v : View) (k : Kind) (xs : List ℕ) → AllByRecursion (Passes v) (map (Check.live k) xs) → AllByRecursion (λ x. IsKind k (v.live x)) xs
unfolding broken
each_live v k [] a = tt
each_live v k (x ∷ xs) a = (unless_none _ _ a.0, each_live v k xs a.1)

submit_signals : (v : View) (queue : ℕ) (s : Submit) → AllByRecursion (Passes v) (submit_near queue s) → AllByRecursion (SignalsWell v) (turns_of_submit s)
submit_signals v queue s a =
    let near_signals : AllByRecursion (Passes v) (near_each kind.Semaphore queue s.signals) =
    all_behind (Passes v) (near_each kind.Semaphore queue s.waits ++ near_each kind.CommandBuffer queue s.cbs) (near_each kind.Semaphore queue s.signals) a in
    let lives = each_live v kind.Semaphore s.signals (all_before (Passes v) (map (Check.live kind.Semaphore) s.signals) (map (λ y. near y queue) s.signals) near_signals) in
    all_append (SignalsWell v) (map wait s.waits ++ map execute s.cbs) (map signal s.signals)
    (all_append (SignalsWell v) (map wait s.waits) (map execute s.cbs) (all_map (SignalsWell v) wait (λ x. tt) s.waits) (all_map (SignalsWell v) execute (λ x. tt) s.cbs))
    (all_into_map (SignalsWell v) signal s.signals
    (all_along (λ x. IsKind kind.Semaphore (v.live x)) (λ x. SignalsWell v (signal x)) (λ x e. signal_of_kind 11 (v.live x) (inr refl) e) s.signals lives))

fence_signals : (v : View) (queue fence : ℕ) → AllByRecursion (Passes v) (cond (fence == 0) [] (Check.live kind.Fence fence ∷ near fence queue ∷ [])) →
    AllByRecursion (SignalsWell v) (cond (fence == 0) [] (signal fence ∷ []))
unfolding broken
fence_signals v queue fence a = by (fence == 0) a
  where
    by : (t : Bool) → AllByRecursion (Passes v) (cond t [] (Check.live kind.Fence fence ∷ near fence queue ∷ [])) → AllByRecursion (SignalsWell v) (cond t [] (signal fence ∷ []))
    by true a = tt
    by false a = (signal_of_kind 10 (v.live fence) (inl refl) (unless_none _ _ a.0), tt)

pub all_signals : (v : View) (queue fence : ℕ) (submits : List Submit) (lengths : List Check) →
    AllByRecursion (Passes v) (lengths ++ flat_map (submit_near queue) submits ++ cond (fence == 0) [] (Check.live kind.Fence fence ∷ near fence queue ∷ [])) →
    AllByRecursion (SignalsWell v) (turns_of submits fence)
all_signals v queue fence submits lengths a =
    let nears : AllByRecursion (Passes v) (flat_map (submit_near queue) submits) =
    all_behind (Passes v) lengths (flat_map (submit_near queue) submits) (all_before (Passes v) (lengths ++ flat_map (submit_near queue) submits) _ a) in
    let fences : AllByRecursion (Passes v) (cond (fence == 0) [] (Check.live kind.Fence fence ∷ near fence queue ∷ [])) =
    all_behind (Passes v) (lengths ++ flat_map (submit_near queue) submits) _ a in
    all_append (SignalsWell v) (flat_map turns_of_submit submits) (cond (fence == 0) [] (signal fence ∷ []))
    (all_into_flat (SignalsWell v) turns_of_submit submits
    (all_along (λ s. AllByRecursion (Passes v) (submit_near queue s)) (λ s. AllByRecursion (SignalsWell v) (turns_of_submit s)) (submit_signals v queue) submits
    (all_from_flat (Passes v) (submit_near queue) submits nears)))
    (fence_signals v queue fence fences)
