-- The sizes of places after the events that make or end them.
use Rattle.std.proofs.Common.{◌≡◌, ℕ, Bool, true, false, cond, refl, sym, ap, ◌∙◌, [], fold, Option, Some, None, is_some, arith, ◌==◌, ◌&&◌, ◌||◌}
use Rattle.std.specs.List.{AllByRecursion}
use Rattle.std.proofs.lemmas.Bool.{eqb-true}
use Rattle.gfx_types.specs.declared.names.Kind.TheVariants as kind
use Rattle.gfx_types.specs.declared.op.Place.TheVariants as place
use Rattle.gfx_model.specs.Events.{Event}
use Rattle.gfx_model.specs.Events.Event.{AllocateMemory, FreeMemory, DestroySwapchainKHR}
use Rattle.gfx_model.specs.Steps.{Object, Detail, kind_of, kind_number}
use Rattle.gfx_model.specs.Steps.Detail.{an_instance, a_surface, a_device, a_queue, a_memory, a_buffer, an_image, a_pool, a_command_buffer, a_fence, a_semaphore, a_swapchain}
use Rattle.gfx_model.specs.Questions.{passes, goes_with, after_end, is_owned}
use Rattle.gfx_model.specs.Views.{View, is_live}
use Rattle.gfx_model.specs.Covers.{is_fetched}
use Rattle.gfx_model.specs.Checks.{first_broken, broken}
use Rattle.gfx_model.specs.Table.{checks_of, place_of, row_of}
use Rattle.gfx_model.specs.Effects.{steps_of, effect_of}
use Rattle.gfx_model.specs.After.{after}
use Rattle.gfx_model.proofs.Covered.{unless_none}
use Rattle.gfx_laws.specs.Lawful.{IsLawful, Passes}
use Rattle.gfx_laws.proofs.Ready.{AllReady}
use Rattle.gfx_laws.proofs.Lists.{all_behind}
use Rattle.gfx_laws.proofs.EventReady.{event_ready}
use Rattle.gfx_laws.proofs.NewObjects.{all_pass}
use Rattle.gfx_replay.specs.Maps.{IsSet, IsKept}
use Rattle.gfx_replay.specs.Sizes.{place_size}
use Rattle.gfx_replay.proofs.SizeSteps.{memory_size, image_bytes, not_live, ended_memory, ended_image}

-- the checks of the row of an event without a fault
pub row_passes : (v : View) (e : Event) → first_broken v (checks_of e) ≡ None → AllByRecursion (Passes v) (row_of e)
row_passes v e none = all_behind (Passes v) (place_of e) (row_of e) (all_pass v (checks_of e) none)

pub along : (f : Option Object → Option ℕ) (t : Bool) (o l : Option Object) → f (cond t o l) ≡ cond t (f o) (f l)
along f true o l = refl
along f false o l = refl

either : (t : Bool) (o : Option ℕ) → cond t o o ≡ o
either true o = refl
either false o = refl

-- ---- memories

pub allocated : (v : View) → IsLawful v [] → (device memory size : ℕ) → first_broken v (checks_of (AllocateMemory device memory size)) ≡ None →
    (v.used memory ≡ false) × IsSet (place_size v) (place_size (fold after v (steps_of v (AllocateMemory device memory size)))) (place.Memory memory) (Some size)
unfolding after effect_of
allocated v h device memory size none = (new, by)
  where
    ready : AllReady v (steps_of v (AllocateMemory device memory size))
    ready = event_ready v [] h (AllocateMemory device memory size) none

    new : v.used memory ≡ false
    new = (ready.1.0).unused

    by : IsSet (place_size v) (place_size (fold after v (steps_of v (AllocateMemory device memory size)))) (place.Memory memory) (Some size)
    by (place.Memory m) = along memory_size (memory == m) (Some (record { parent = device; detail = a_memory size })) (v.live m)
    by (place.Image x) = along image_bytes (memory == x) (Some (record { parent = device; detail = a_memory size })) (v.live x) ∙ gone (memory == x) refl
      where
        gone : (t : Bool) → (memory == x) ≡ t → cond t None (image_bytes (v.live x)) ≡ image_bytes (v.live x)
        gone true e = sym (ap image_bytes (ap v.live (sym (eqb-true memory x e)) ∙ not_live v h.objects memory new))
        gone false e = refl

pub freed : (v : View) → IsLawful v [] → (device memory : ℕ) → first_broken v (checks_of (FreeMemory device memory)) ≡ None →
    IsSet (place_size v) (place_size (fold after v (steps_of v (FreeMemory device memory)))) (place.Memory memory) None
unfolding after effect_of row_of broken
freed v h device memory none = by
  where
    is_memory : is_live v kind.Memory memory ≡ true
    is_memory = unless_none _ _ (row_passes v (FreeMemory device memory) none).1.0

    other_kind : (n : ℕ) → (5 == n) ≡ false → (l : Option Object) → passes (λ o. kind_number (kind_of o.detail) == 5) l ≡ true → passes (λ o. kind_number (kind_of o.detail) == n) l ≡ false
    other_kind n apart None e = refl
    other_kind n apart (Some o) e = ap (λ m. m == n) (eqb-true (kind_number (kind_of o.detail)) 5 e) ∙ apart

    no_image : (l : Option Object) → passes (λ o. kind_number (kind_of o.detail) == 5) l ≡ true → passes (λ o. is_fetched o.detail) l ≡ false
    no_image None e = refl
    no_image (Some o) e = by_detail o.detail e
      where
        by_detail : (d : Detail) → (kind_number (kind_of d) == 5) ≡ true → is_fetched d ≡ false
        by_detail (an_image format width height usage index) e = absurd (cc)
        by_detail (a_memory size) e = refl
        by_detail _ e = refl

    over : (m : ℕ) (t : Bool) → (memory == m) ≡ t → memory_size (after_end memory m (v.live m)) ≡ cond t None (memory_size (v.live m))
    over m true e = gone (v.live m)
      where
        gone : (l : Option Object) → memory_size (after_end memory m l) ≡ None
        gone None = refl
        gone (Some o) = ap (λ t. memory_size (cond (t || is_owned o.detail && memory == o.parent) None (Some o))) e
    over m false e = kept (v.live m)
      where
        kept_detail : (p : ℕ) (d : Detail) → memory_size (cond (false || is_owned d && memory == p) None (Some (record { parent = p; detail = d }))) ≡ memory_size (Some (record { parent = p; detail = d }))
        kept_detail p (a_memory size) = refl
        kept_detail p (an_image format width height usage index) = along memory_size (is_some index && memory == p) None (Some (record { parent = p; detail = an_image format width height usage index })) ∙ either (is_some index && memory == p) None
        kept_detail p a_queue = along memory_size (memory == p) None (Some (record { parent = p; detail = a_queue })) ∙ either (memory == p) None
        kept_detail p a_command_buffer = along memory_size (memory == p) None (Some (record { parent = p; detail = a_command_buffer })) ∙ either (memory == p) None
        kept_detail p (an_instance api) = refl
        kept_detail p (a_buffer size usage) = refl
        kept_detail p (a_pool flags) = refl
        kept_detail p (a_swapchain surface images format width height usage) = refl
        kept_detail p a_surface = refl
        kept_detail p a_device = refl
        kept_detail p a_fence = refl
        kept_detail p a_semaphore = refl

        kept : (l : Option Object) → memory_size (after_end memory m l) ≡ memory_size l
        kept None = refl
        kept (Some o) = ap (λ t. memory_size (cond (t || is_owned o.detail && memory == o.parent) None (Some o))) e ∙ kept_detail o.parent o.detail

    by : IsSet (place_size v) (place_size (fold after v (steps_of v (FreeMemory device memory)))) (place.Memory memory) None
    by (place.Memory m) = over m (memory == m) refl
    by (place.Image x) = ended_image v h.objects memory x (other_kind 12 refl (v.live memory) is_memory) (no_image (v.live memory) is_memory)

-- ---- images of swapchains

pub chain_ended : (v : View) → IsLawful v [] → (device swapchain : ℕ) → first_broken v (checks_of (DestroySwapchainKHR device swapchain)) ≡ None →
    let w = fold after v (steps_of v (DestroySwapchainKHR device swapchain)) in IsKept (place_size v) (place_size w) (is_live w kind.Image)
unfolding after effect_of row_of broken
chain_ended v h device swapchain none = by
  where
    is_swapchain : is_live v kind.Swapchain swapchain ≡ true
    is_swapchain = unless_none _ _ (row_passes v (DestroySwapchainKHR device swapchain) none).1.0

    no_memory : (l : Option Object) → passes (λ o. kind_number (kind_of o.detail) == 12) l ≡ true → passes (λ o. kind_number (kind_of o.detail) == 5) l ≡ false
    no_memory None e = refl
    no_memory (Some o) e = ap (λ m. m == 5) (eqb-true (kind_number (kind_of o.detail)) 12 e)

    left : (d : Detail) (p : ℕ) → image_bytes (Some (record { parent = p; detail = d })) ≡ cond (kind_number (kind_of d) == 7) (image_bytes (Some (record { parent = p; detail = d }))) None
    left (an_image format width height usage index) p = refl
    left (a_memory size) p = refl
    left _ p = refl

    image : (x : ℕ) (l : Option Object) → image_bytes (after_end swapchain x l) ≡ cond (passes (λ o. kind_number (kind_of o.detail) == 7) (after_end swapchain x l)) (image_bytes l) None
    image x None = refl
    image x (Some o) = by_test (goes_with swapchain x o)
      where
        by_test : (t : Bool) → image_bytes (cond t None (Some o)) ≡ cond (passes (λ o. kind_number (kind_of o.detail) == 7) (cond t None (Some o))) (image_bytes (Some o)) None
        by_test true = refl
        by_test false = left o.detail o.parent

    by : let w = fold after v (steps_of v (DestroySwapchainKHR device swapchain)) in IsKept (place_size v) (place_size w) (is_live w kind.Image)
    by (place.Memory m) = ended_memory v swapchain m (no_memory (v.live swapchain) is_swapchain)
    by (place.Image x) = image x (v.live x)

-- an image that had a place and is gone after the end of a swapchain is one that the swapchain owned
pub ended_owned : (v : View) → (device swapchain : ℕ) → first_broken v (checks_of (DestroySwapchainKHR device swapchain)) ≡ None →
    (x : ℕ) → is_live (fold after v (steps_of v (DestroySwapchainKHR device swapchain))) kind.Image x ≡ false → is_some (image_bytes (v.live x)) ≡ true
    → passes (λ o. is_owned o.detail && swapchain == o.parent) (v.live x) ≡ true
unfolding after effect_of row_of broken
ended_owned v device swapchain none x dead had = by (v.live x) refl dead had
  where
    is_swapchain : is_live v kind.Swapchain swapchain ≡ true
    is_swapchain = unless_none _ _ (row_passes v (DestroySwapchainKHR device swapchain) none).1.0

    by_detail : (p : ℕ) (d : Detail) → v.live x ≡ Some (record { parent = p; detail = d }) → (s t : Bool) → (swapchain == x) ≡ s → (is_owned d && swapchain == p) ≡ t
        → passes (λ o. kind_number (kind_of o.detail) == 7) (cond (s || t) None (Some (record { parent = p; detail = d }))) ≡ false
        → is_some (image_bytes (Some (record { parent = p; detail = d }))) ≡ true → t ≡ true
    by_detail p d live s true same owned dead had = refl
    by_detail p (an_image format width height usage (Some index)) live true false same owned dead had =
        let kinds = ap (λ y. passes (λ o. kind_number (kind_of o.detail) == 12) (v.live y)) (eqb-true swapchain x same) ∙ ap (passes (λ o. kind_number (kind_of o.detail) == 12)) live in
        absurd (grind (arith, kinds, is_swapchain))
    by_detail p (an_image format width height usage (Some index)) live false false same owned dead had = absurd cc
    by_detail p (an_image format width height usage None) live s false same owned dead had = absurd cc
    by_detail p (a_memory size) live s false same owned dead had = absurd cc
    by_detail p _ live s false same owned dead had = absurd cc

    by : (l : Option Object) → v.live x ≡ l → passes (λ o. kind_number (kind_of o.detail) == 7) (after_end swapchain x l) ≡ false → is_some (image_bytes l) ≡ true
        → passes (λ o. is_owned o.detail && swapchain == o.parent) l ≡ true
    by None live dead had = absurd cc
    by (Some o) live dead had = by_detail o.parent o.detail live (swapchain == x) (is_owned o.detail && swapchain == o.parent) refl refl dead had
