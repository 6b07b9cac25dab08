-- The places of images that are fetched.
use Rattle.std.proofs.Common.{◌≡◌, ℕ, ◌+◌, ◌⊎◌, inl, inr, Bool, true, false, cond, refl, sym, ap, ◌∙◌, subst, List, [], ◌∷◌, fold, Option, Some, None, ◌==◌, ◌&&◌, ◌||◌}
use Rattle.std.specs.Option.{option_or}
use Rattle.std.specs.List.{AllByRecursion, range_with_len}
use Rattle.std.proofs.lemmas.Bool.{eqb-true, both_ways, and_parts, or_cases}
use Rattle.gfx_types.specs.declared.op.Place.TheVariants as place
use Rattle.gfx_model.specs.Events.Event.{GetSwapchainImagesKHR}
use Rattle.gfx_model.specs.Steps.{Object, Detail}
use Rattle.gfx_model.specs.Steps.Step.{taken, creates}
use Rattle.gfx_model.specs.Steps.Detail.{an_image}
use Rattle.gfx_model.specs.Questions.{passes}
use Rattle.gfx_model.specs.Views.{View, detail_size, format_at, width_of, height_of, usage_in, fetched, images_in, is_one, has_index}
use Rattle.gfx_model.specs.Covers.{is_fetched}
use Rattle.gfx_model.specs.Checks.{first_broken, broken, is_among, same_list, images_fault}
use Rattle.gfx_model.specs.Table.{checks_of, row_of}
use Rattle.gfx_model.specs.Effects.{steps_of, effect_of, fetches, first_fetch}
use Rattle.gfx_model.specs.After.{after}
use Rattle.gfx_model.specs.Frames.{picture_size}
use Rattle.gfx_model.proofs.Covered.{unless_none}
use Rattle.gfx_model.proofs.Lists.{all_flat_map}
use Rattle.gfx_laws.specs.Lawful.{base, IsLawful, LawfulObjects}
use Rattle.gfx_laws.proofs.Ready.{AllReady}
use Rattle.gfx_laws.proofs.LawfulObjects.{objects_after}
use Rattle.gfx_laws.proofs.EventReady.{event_ready}
use Rattle.gfx_laws.proofs.SameFrames.{all_filter}
use Rattle.gfx_replay.specs.Maps.{IsGiven}
use Rattle.gfx_replay.specs.Sizes.{place_size}
use Rattle.gfx_replay.proofs.SizeSteps.{memory_size, image_bytes, not_live, created_same}
use Rattle.gfx_replay.proofs.SizeChanges.{row_passes}

or_none : (o : Option ℕ) → option_or o None ≡ o
or_none None = refl
or_none (Some n) = refl

or_some : (o p : Option ℕ) → (o ≡ None → ⊥) → option_or o p ≡ o
or_some None p some = absurd (some refl)
or_some (Some n) p some = refl

-- ---- images that are fetched first

abbrev image_of : View → ℕ → ℕ → Object
image_of v swapchain k = record { parent = swapchain; detail = an_image (format_at v swapchain) (width_of v swapchain) (height_of v swapchain) (usage_in v swapchain) (Some k) }

given_from : (v u : View) (swapchain k : ℕ) (ids : List ℕ) → LawfulObjects (base u) → AllReady u (fetches v swapchain k ids) →
    IsGiven (place_size u) (place_size (fold after u (fetches v swapchain k ids))) ids (λ at. Some (picture_size v swapchain))
unfolding after
given_from v u swapchain k [] h ready (place.Memory m) = sym (or_none (place_size u (place.Memory m)))
given_from v u swapchain k [] h ready (place.Image x) = sym (or_none (place_size u (place.Image x)))
given_from v u swapchain k (id ∷ ids) h ready (place.Memory m) =
    let o = image_of v swapchain k in
    given_from v (after u (creates id swapchain o.detail)) swapchain (k + 1) ids (objects_after u (creates id swapchain o.detail) h ready.0) ready.1 (place.Memory m)
    ∙ ap (λ n. option_or n None)
    (created_same memory_size refl (id == m) (u.live m) o (λ e. ap u.live (sym (eqb-true id m e)) ∙ not_live u h id (ready.0).unused) refl)
given_from v u swapchain k (id ∷ ids) h ready (place.Image x) =
    let o = image_of v swapchain k in
    given_from v (after u (creates id swapchain o.detail)) swapchain (k + 1) ids (objects_after u (creates id swapchain o.detail) h ready.0) ready.1 (place.Image x)
    ∙ by (id == x) refl
  where
    by : (t : Bool) → (id == x) ≡ t →
        option_or (image_bytes (cond t (Some (image_of v swapchain k)) (u.live x))) (cond (is_among x ids) (Some (picture_size v swapchain)) None)
        ≡ option_or (image_bytes (u.live x)) (cond (t || is_among x ids) (Some (picture_size v swapchain)) None)
    by true e = sym (ap (λ l. option_or (image_bytes l) (Some (picture_size v swapchain))) (ap u.live (sym (eqb-true id x e)) ∙ not_live u h id (ready.0).unused))
    by false e = refl

new_from : (v u : View) (swapchain k : ℕ) (ids : List ℕ) → AllReady u (fetches v swapchain k ids) → (x : ℕ) → is_among x ids ≡ true → u.used x ≡ false
unfolding after
new_from v u swapchain k [] ready x among = absurd (cc)
new_from v u swapchain k (id ∷ ids) ready x among =
    by (id == x) refl (or_cases (id == x) (is_among x ids) among)
    (new_from v (after u (creates id swapchain (image_of v swapchain k).detail)) swapchain (k + 1) ids ready.1 x)
  where
    used_before : (t b : Bool) → t || b ≡ false → b ≡ false
    used_before true b e = absurd (cc)
    used_before false b e = e

    by : (t : Bool) → (id == x) ≡ t → ((id == x) ≡ true) ⊎ (is_among x ids ≡ true) → (is_among x ids ≡ true → (id == x) || u.used x ≡ false) → u.used x ≡ false
    by true e c later = ap u.used (sym (eqb-true id x e)) ∙ (ready.0).unused
    by false e (inl same) later = absurd (both_ways (id == x) e same)
    by false e (inr more) later = used_before (id == x) (u.used x) (later more)

-- ---- images that were fetched before

same_list-true : (xs ys : List ℕ) → same_list xs ys ≡ true → xs ≡ ys
same_list-true [] [] e = refl
same_list-true [] (y ∷ ys) e = absurd (cc)
same_list-true (x ∷ xs) [] e = absurd (cc)
same_list-true (x ∷ xs) (y ∷ ys) e =
    let both = and_parts (x == y) (same_list xs ys) e in
    ap (λ z. z ∷ xs) (eqb-true x y both.0) ∙ ap (λ zs. y ∷ zs) (same_list-true xs ys both.1)

of_among : (P : ℕ → Type 0) (xs : List ℕ) (x : ℕ) → AllByRecursion P xs → is_among x xs ≡ true → P x
of_among P [] x a e = absurd (cc)
of_among P (y ∷ ys) x a e =
    elim (or_cases (y == x) (is_among x ys) e) [
      | inl same ↦ subst P (eqb-true y x same) a.0
      | inr more ↦ of_among P ys x a.1 more
    ]

IsThere : View → ℕ → Type 0
IsThere v x = passes (λ o. is_fetched o.detail) (v.live x) ≡ true

one_there : (v : View) (swapchain k x : ℕ) → is_one v (λ o. o.parent == swapchain && has_index k o.detail) x ≡ true → IsThere v x
unfolding IsThere
one_there v swapchain k x e = by (v.live x) e
  where
    by_detail : (d : Detail) → has_index k d ≡ true → is_fetched d ≡ true
    by_detail (an_image format width height usage (Some index)) e = refl
    by_detail (an_image format width height usage None) e = absurd (cc)
    by_detail _ e = absurd (cc)

    by : (l : Option Object) → passes (λ o. o.parent == swapchain && has_index k o.detail) l ≡ true → passes (λ o. is_fetched o.detail) l ≡ true
    by None e = absurd (cc)
    by (Some o) e = by_detail o.detail (and_parts (o.parent == swapchain) (has_index k o.detail) e).1

all_there : (v : View) (swapchain : ℕ) → AllByRecursion (IsThere v) (fetched v swapchain)
all_there v swapchain = all_flat_map (IsThere v) _ (λ k. all_filter (IsThere v) _ (one_there v swapchain k) v.ids) (range_with_len 0 (images_in v swapchain))

-- a fetched image has a place
some_place : (v : View) (x : ℕ) → IsThere v x → place_size v (place.Image x) ≡ None → ⊥
unfolding IsThere
some_place v x there none = by (v.live x) there none
  where
    by : (l : Option Object) → passes (λ o. is_fetched o.detail) l ≡ true → image_bytes l ≡ None → ⊥
    by None e f = cc
    by (Some o) e f = let some : Some (detail_size o.detail) ≡ None = sym (ap (λ t. cond t (Some (detail_size o.detail)) None) e) ∙ f in cc

pub record Fetches (v w : View) (swapchain : ℕ) (ids : List ℕ) : Type 0 where
  pub given : IsGiven (place_size v) (place_size w) ids (λ at. Some (picture_size v swapchain))
  pub new : (x : ℕ) → is_among x ids ≡ true → place_size v (place.Image x) ≡ None → v.used x ≡ false

pub images_fetched : (v : View) → IsLawful v [] → (device swapchain : ℕ) (ids : List ℕ) → first_broken v (checks_of (GetSwapchainImagesKHR device swapchain ids)) ≡ None →
    Fetches v (fold after v (steps_of v (GetSwapchainImagesKHR device swapchain ids))) swapchain ids
unfolding after effect_of row_of broken
images_fetched v h device swapchain ids none = by (fetched v swapchain) refl (row_passes v (GetSwapchainImagesKHR device swapchain ids) none).1.1.1.0 (event_ready v [] h (GetSwapchainImagesKHR device swapchain ids) none).1
  where
    by : (before : List ℕ) → fetched v swapchain ≡ before → images_fault v (images_in v swapchain) before ids ≡ None → AllReady (after v taken) (first_fetch before (fetches v swapchain 0 ids)) →
        Fetches v (fold after (after v taken) (first_fetch before (fetches v swapchain 0 ids))) swapchain ids
    by [] e fault ready = record {
      given = given_from v (after v taken) swapchain 0 ids h.objects ready;
      new = λ x among vacant. new_from v (after v taken) swapchain 0 ids ready x among;
    }
    by (i ∷ rest) e fault ready = record {
      given = λ at. given at;
      new = λ x among vacant. absurd (some_place v x (there x among) vacant);
    }
      where
        there : (x : ℕ) → is_among x ids ≡ true → IsThere v x
        there x among = of_among (IsThere v) (fetched v swapchain) x (all_there v swapchain) (ap (is_among x) (e ∙ same_list-true (i ∷ rest) ids (unless_none _ _ fault)) ∙ among)

        given : IsGiven (place_size v) (place_size v) ids (λ at. Some (picture_size v swapchain))
        given (place.Memory m) = sym (or_none (place_size v (place.Memory m)))
        given (place.Image x) = image (is_among x ids) refl
          where
            image : (t : Bool) → is_among x ids ≡ t → place_size v (place.Image x) ≡ option_or (place_size v (place.Image x)) (cond t (Some (picture_size v swapchain)) None)
            image false f = sym (or_none (place_size v (place.Image x)))
            image true f = sym (or_some (place_size v (place.Image x)) (Some (picture_size v swapchain)) (some_place v x (there x f)))
