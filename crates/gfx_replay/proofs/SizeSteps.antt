-- The sizes of places step by step.
use Rattle.std.proofs.Common.{◌≡◌, ℕ, Bool, true, false, cond, refl, sym, ap, ◌∙◌, List, [], ◌∷◌, fold, Option, Some, None, ◌==◌, ◌||◌}
use Rattle.std.specs.Option.{option_map_or}
use Rattle.std.proofs.lemmas.Bool.{eqb-true, both_ways}
use Rattle.gfx_types.specs.declared.op.Place.{Place}
use Rattle.gfx_types.specs.declared.op.Place.TheVariants as place
use Rattle.gfx_model.specs.Steps.{Step, Object, Detail, kind_of, kind_number}
use Rattle.gfx_model.specs.Steps.Step.{creates, ends}
use Rattle.gfx_model.specs.Steps.Detail.{an_instance, a_surface, a_device, a_queue, a_memory, a_buffer, an_image, a_pool, a_command_buffer, a_fence, a_semaphore, a_swapchain}
use Rattle.gfx_model.specs.Questions.{passes, goes_with, after_end}
use Rattle.gfx_model.specs.Views.{View, detail_size}
use Rattle.gfx_model.specs.Covers.{is_fetched}
use Rattle.gfx_model.specs.After.{after}
use Rattle.gfx_laws.specs.Lawful.{base, LawfulObjects}
use Rattle.gfx_laws.proofs.Ready.{Ready, AllReady}
use Rattle.gfx_laws.proofs.LawfulObjects.{objects_after}
use Rattle.gfx_replay.specs.Sizes.{place_size}
use Rattle.gfx_replay.specs.Placing.{is_placed, is_home, IsPlaceless, ArePlaceless}

-- the size of a memory, and of an image of a swapchain, from what is live
abbrev pub memory_size : Option Object → Option ℕ
memory_size o = cond (passes (λ o. kind_number (kind_of o.detail) == 5) o) (Some (option_map_or (λ o. detail_size o.detail) o 0)) None

abbrev pub image_bytes : Option Object → Option ℕ
image_bytes o = cond (passes (λ o. is_fetched o.detail) o) (Some (option_map_or (λ o. detail_size o.detail) o 0)) None

-- what was not used isn't live
pub not_live : (v : View) → LawfulObjects (base v) → (x : ℕ) → v.used x ≡ false → v.live x ≡ None
not_live v h x new = by (v.live x) refl
  where
    by : (l : Option Object) → v.live x ≡ l → v.live x ≡ None
    by None e = e
    by (Some o) e = absurd (both_ways (v.used x) new (h.used x o e))

-- an object without a place
no_memory : (p : ℕ) (d : Detail) → is_placed d ≡ false → memory_size (Some (record { parent = p; detail = d })) ≡ None
no_memory p (a_memory size) e = absurd (cc)
no_memory p (an_image format width height usage index) e = refl
no_memory p (an_instance api) e = refl
no_memory p (a_buffer size usage) e = refl
no_memory p (a_pool flags) e = refl
no_memory p (a_swapchain surface images format width height usage) e = refl
no_memory p a_surface e = refl
no_memory p a_device e = refl
no_memory p a_queue e = refl
no_memory p a_command_buffer e = refl
no_memory p a_fence e = refl
no_memory p a_semaphore e = refl

no_image : (p : ℕ) (d : Detail) → is_placed d ≡ false → image_bytes (Some (record { parent = p; detail = d })) ≡ None
no_image p (an_image format width height usage None) e = refl
no_image p (an_image format width height usage (Some index)) e = absurd (cc)
no_image p (a_memory size) e = refl
no_image p _ e = refl

-- one object more, under an id that was not live
pub created_same : (f : Option Object → Option ℕ) → f None ≡ None → (t : Bool) (l : Option Object) (o : Object) → (t ≡ true → l ≡ None) → f (Some o) ≡ None → f (cond t (Some o) l) ≡ f l
created_same f none true l o new e = e ∙ sym none ∙ sym (ap f (new refl))
created_same f none false l o new e = refl

-- an object that stays, or goes and had no place
pub ended_memory : (v : View) (gone m : ℕ) → passes (λ o. kind_number (kind_of o.detail) == 5) (v.live gone) ≡ false → memory_size (after_end gone m (v.live m)) ≡ memory_size (v.live m)
ended_memory v gone m other = by (v.live m) refl
  where
    by_detail : (p : ℕ) (d : Detail) → v.live m ≡ Some (record { parent = p; detail = d }) → (t : Bool) → goes_with gone m (record { parent = p; detail = d }) ≡ t →
        memory_size (cond t None (Some (record { parent = p; detail = d }))) ≡ memory_size (Some (record { parent = p; detail = d }))
    by_detail p d live false e = refl
    by_detail p (a_memory size) live true e = absurd (goes (gone == m) refl e)
      where
        goes : (t : Bool) → (gone == m) ≡ t → t || false ≡ true → ⊥
        goes true same g =
            both_ways (passes (λ o. kind_number (kind_of o.detail) == 5) (v.live gone)) other
            (ap (λ x. passes (λ o. kind_number (kind_of o.detail) == 5) (v.live x)) (eqb-true gone m same) ∙ ap (passes (λ o. kind_number (kind_of o.detail) == 5)) live)
        goes false same g = absurd (cc)
    by_detail p (an_image format width height usage index) live true e = refl
    by_detail p (an_instance api) live true e = refl
    by_detail p (a_buffer size usage) live true e = refl
    by_detail p (a_pool flags) live true e = refl
    by_detail p (a_swapchain surface images format width height usage) live true e = refl
    by_detail p a_surface live true e = refl
    by_detail p a_device live true e = refl
    by_detail p a_queue live true e = refl
    by_detail p a_command_buffer live true e = refl
    by_detail p a_fence live true e = refl
    by_detail p a_semaphore live true e = refl

    by : (l : Option Object) → v.live m ≡ l → memory_size (after_end gone m l) ≡ memory_size l
    by None e = refl
    by (Some o) e = by_detail o.parent o.detail e (goes_with gone m o) refl

-- an image of a swapchain goes with it alone
pub ended_image : (v : View) → LawfulObjects (base v) → (gone x : ℕ) → passes (λ o. kind_number (kind_of o.detail) == 12) (v.live gone) ≡ false →
    passes (λ o. is_fetched o.detail) (v.live gone) ≡ false → image_bytes (after_end gone x (v.live x)) ≡ image_bytes (v.live x)
ended_image v h gone x other own = by (v.live x) refl
  where
    by_detail : (p : ℕ) (d : Detail) → v.live x ≡ Some (record { parent = p; detail = d }) → (t : Bool) → goes_with gone x (record { parent = p; detail = d }) ≡ t →
        image_bytes (cond t None (Some (record { parent = p; detail = d }))) ≡ image_bytes (Some (record { parent = p; detail = d }))
    by_detail p d live false e = refl
    by_detail p (an_image format width height usage None) live true e = refl
    by_detail p (an_image format width height usage (Some index)) live true e = absurd (goes (gone == x) refl (gone == p) refl e)
      where
        goes : (t : Bool) → (gone == x) ≡ t → (u : Bool) → (gone == p) ≡ u → t || u ≡ true → ⊥
        goes true same u e g = both_ways (passes (λ o. is_fetched o.detail) (v.live gone)) own (ap (λ y. passes (λ o. is_fetched o.detail) (v.live y)) (eqb-true gone x same) ∙ ap (passes (λ o. is_fetched o.detail)) live)
        goes false same true e g =
            let parent = h.parent x (record { parent = p; detail = an_image format width height usage (Some index) }) live in
            both_ways (passes (λ o. kind_number (kind_of o.detail) == 12) (v.live gone)) other (ap (λ y. passes (λ o. kind_number (kind_of o.detail) == 12) (v.live y)) (eqb-true gone p e) ∙ parent)
        goes false same false e g = absurd (cc)
    by_detail p (a_memory size) live true e = refl
    by_detail p _ live true e = refl

    by : (l : Option Object) → v.live x ≡ l → image_bytes (after_end gone x l) ≡ image_bytes l
    by None e = refl
    by (Some o) e = by_detail o.parent o.detail e (goes_with gone x o) refl

-- what is no home is neither a memory nor a swapchain
no_home : (n : ℕ) → ((d : Detail) → is_home d ≡ false → (kind_number (kind_of d) == n) ≡ false) → (l : Option Object) → passes (λ o. is_home o.detail) l ≡ false →
    passes (λ o. kind_number (kind_of o.detail) == n) l ≡ false
no_home n each None e = refl
no_home n each (Some o) e = each o.detail e

homeless_memory : (d : Detail) → is_home d ≡ false → (kind_number (kind_of d) == 5) ≡ false
homeless_memory (a_memory size) e = absurd (cc)
homeless_memory (a_swapchain surface images format width height usage) e = refl
homeless_memory _ e = refl

homeless_swapchain : (d : Detail) → is_home d ≡ false → (kind_number (kind_of d) == 12) ≡ false
homeless_swapchain (a_swapchain surface images format width height usage) e = absurd (cc)
homeless_swapchain (a_memory size) e = refl
homeless_swapchain _ e = refl

-- a step that makes and ends no place leaves all sizes
pub step_same : (v : View) (s : Step) → LawfulObjects (base v) → Ready v s → IsPlaceless v s → (at : Place) → place_size (after v s) at ≡ place_size v at
unfolding after
step_same v (creates i p d) h ready free (place.Memory m) =
    created_same memory_size refl (i == m) (v.live m) (record { parent = p; detail = d }) (λ e. ap v.live (sym (eqb-true i m e)) ∙ not_live v h i ready.unused) (no_memory p d free)
step_same v (creates i p d) h ready free (place.Image x) =
    created_same image_bytes refl (i == x) (v.live x) (record { parent = p; detail = d }) (λ e. ap v.live (sym (eqb-true i x e)) ∙ not_live v h i ready.unused) (no_image p d free)
step_same v (ends gone) h ready free (place.Memory m) = ended_memory v gone m (no_home 5 homeless_memory (v.live gone) free)
step_same v (ends gone) h ready free (place.Image x) = ended_image v h gone x (no_home 12 homeless_swapchain (v.live gone) free) ready.is_own
step_same v _ h ready free (place.Memory m) = refl
step_same v _ h ready free (place.Image x) = refl

pub steps_same : (v : View) (ss : List Step) → LawfulObjects (base v) → AllReady v ss → ArePlaceless v ss → (at : Place) → place_size (fold after v ss) at ≡ place_size v at
steps_same v [] h ready free at = refl
steps_same v (s ∷ ss) h ready free at =
    steps_same (after v s) ss (objects_after v s h ready.0) ready.1 free.1 at ∙ step_same v s h ready.0 free.0 at
