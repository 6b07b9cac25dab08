-- The layouts and bytes of the images of a swapchain are set.
use Rattle.std.proofs.Common.{◌≡◌, ◌⊎◌, inl, inr, ℕ, ◌+◌, ◌-◌, Bool, true, false, ◌&&◌, ◌||◌, ◌==◌, nat_le, nat_lt, fold, List, [], ◌∷◌, length, map, Option, Some, if◌then◌else◌, refl, sym, ap, subst, ◌∙◌, arith, is_some}
use mathlib.Core.Path.{fun_ext}
use Rattle.std.specs.Prelude.{slice_index, option_and_then}
use Rattle.std.specs.List.{AllByRecursion}
use Rattle.std.specs.Option.{option_map_or}
use Rattle.std.proofs.lemmas.Bool.{eqb-true, eq-eqb}
use Rattle.std.proofs.lemmas.Bool.Decides.{nat_tests}
use Rattle.std.proofs.lemmas.List.FromFn.{length-map-range_with_len}
use Rattle.gfx_types.specs.declared.op.Place.{Place}
use Rattle.gfx_types.specs.declared.op.Place.TheVariants as place
use Rattle.gfx_types.specs.declared.names.Kind.TheVariants as kind
use Rattle.gfx_model.specs.Spelling.{id_of}
use Rattle.gfx_model.specs.Steps.{Object, kind_of, kind_number}
use Rattle.gfx_model.specs.Steps.Step.{taken, changes}
use Rattle.gfx_model.specs.Steps.Change.{put, set_layout}
use Rattle.gfx_model.specs.Steps.Detail.{an_image, a_swapchain}
use Rattle.gfx_model.specs.Questions.{passes}
use Rattle.gfx_model.specs.Views.{is_live, is_usable, size_of, detail_size, detail_window}
use Rattle.gfx_model.specs.Checks.{broken, is_among, wanted_bytes}
use Rattle.gfx_model.specs.Table.{checks_of, place_of, row_of}
use Rattle.gfx_model.specs.Effects.{effect_of, image_bytes_put}
use Rattle.gfx_model.specs.After.{after}
use Rattle.gfx_model.specs.Bytes.{byte, bytes_at}
use Rattle.gfx_model.specs.Covers.{is_fetched}
use Rattle.gfx_model.specs.Section.{Known, image_event}
use Rattle.gfx_section_law.specs.Orderly.{IsOrderly}
use Rattle.gfx_section_law.proofs.Picks.{also}
use Rattle.gfx_section_law.proofs.Builds.{Seen, Builds, Passes, next, bytes_step, bytes_after, ok, builds_none, builds_call}
use Rattle.gfx_section_law.proofs.Shown.{Cuts, shown, shown_answers, bytes_shown, byte_of, is_in_place, layout_of, layout_shown}
use Rattle.gfx_section_law.proofs.Objects.{live_shown, live_ok}
use Rattle.gfx_section_law.proofs.Plain.{Starts}
use Rattle.gfx_section_law.proofs.Spans.{slice_index-at}
use Rattle.gfx_section_law.proofs.Parts.{alsos, alsos-among, AreNew, all_among}
use Rattle.gfx_section_law.proofs.Images.{fetched_cases, fetched_new}
use Rattle.gfx_section_law.proofs.Many.{AreObjects}
use Rattle.gfx_section_law.proofs.SwapchainFetch as its_fetch
use Rattle.gfx_section_law.proofs.SwapchainMarks as its_marks

module _ (k : Known) (n : ℕ) (orderly : IsOrderly k.answers) (done : ℕ → Bool) (x parent surface images format width height usage : ℕ)
    (is : k.answers.live x ≡ Some (record { parent = parent; detail = a_swapchain surface images format width height usage })) (starts : Starts k.answers x 7 done) where
  abbrev o : Object
  o = its_fetch.o k n orderly done x parent surface images format width height usage is starts

  abbrev area : ℕ
  area = its_fetch.area k n orderly done x parent surface images format width height usage is starts

  abbrev parts : List ℕ
  parts = its_fetch.parts k n orderly done x parent surface images format width height usage is starts

  part_new : (i : ℕ) → is_among i parts ≡ true → done i ≡ false
  part_new = its_fetch.part_new k n orderly done x parent surface images format width height usage is starts

  abbrev marking : Cuts
  marking = its_marks.marking k n orderly done x parent surface images format width height usage is starts

  -- ---- layouts and bytes of its images

  abbrev pub having : (ℕ → Bool) → Cuts
  having some = record marking { layout = some; bytes = some }

  module _ (y j : ℕ) (at : k.answers.live y ≡ Some (record { parent = x; detail = an_image format width height usage (Some j) })) where
    image_usable : is_usable k.answers y ≡ true
    image_usable = ap (λ (l : Option Object). is_some (option_and_then (λ (o : Object). detail_window k.answers y o.detail) l)) at

    image_fetched : passes (λ o. is_fetched o.detail) (k.answers.live y) ≡ true
    image_fetched = ap (passes (λ o. is_fetched o.detail)) at

    image_size_is : size_of k.answers y ≡ area
    image_size_is = ap (λ (l : Option Object). option_map_or (λ (o : Object). detail_size o.detail) l 0) at

    not_memory : is_live k.answers kind.Memory y ≡ false
    not_memory = ap (passes (λ o. kind_number (kind_of o.detail) == 5)) at

    image_put : (some : ℕ → Bool) → some y ≡ false → bytes_after (put (place.Image y) 0 (bytes_at k.es (place.Image y) 0 area)) (bytes_shown k some) ≡ bytes_shown k (also y some)
    image_put some new = fun_ext (λ p. fun_ext (λ i. cases p i))
      where
        memory : (m i : ℕ) (t : Bool) → (y == m) ≡ t → (if some m then byte_of k (place.Memory m) i else 0) ≡ (if t || some m then byte_of k (place.Memory m) i else 0)
        memory m i false e = refl
        memory m i true e =
            let same : y ≡ m = eqb-true y m e in
            ap (λ t. if t then byte_of k (place.Memory m) i else 0) (ap some (sym same) ∙ new)
            ∙ sym (ap (λ t. if t && nat_lt i (size_of k.answers m) then byte k.es (place.Memory m) i else 0) (ap (is_live k.answers kind.Memory) (sym same) ∙ not_memory))

        image : (z i : ℕ) (t : Bool) → (y == z) ≡ t → (u : Bool) → nat_lt i area ≡ u →
            (if t && nat_le 0 i && u then slice_index (bytes_at k.es (place.Image y) 0 area) (i - 0) else (if some z then byte_of k (place.Image z) i else 0))
            ≡ (if t || some z then byte_of k (place.Image z) i else 0)
        image z i false e u f = refl
        image z i true e true f =
            let same : y ≡ z = eqb-true y z e in
            let low : nat_le 0 i ≡ true = grind (arith, nat_tests) in
            let inside : is_in_place k.answers (place.Image z) i ≡ true =
            subst (λ w. is_in_place k.answers (place.Image w) i ≡ true) same (ap (λ t. t && nat_lt i (size_of k.answers y)) image_fetched ∙ ap (λ q. nat_lt i q) image_size_is ∙ f) in
            ap (λ t. if t && true then slice_index (bytes_at k.es (place.Image y) 0 area) (i - 0) else (if some z then byte_of k (place.Image z) i else 0)) low
            ∙ slice_index-at (λ i. byte k.es (place.Image y) i) 0 area i (omega arith) (grind (arith, nat_tests, f))
            ∙ ap (λ w. byte k.es (place.Image w) i) same
            ∙ sym (ap (λ t. if t then byte k.es (place.Image z) i else 0) inside)
        image z i true e false f =
            let same : y ≡ z = eqb-true y z e in
            let low : nat_le 0 i ≡ true = grind (arith, nat_tests) in
            ap (λ t. if t && false then slice_index (bytes_at k.es (place.Image y) 0 area) (i - 0) else (if some z then byte_of k (place.Image z) i else 0)) low
            ∙ ap (λ t. if t then byte_of k (place.Image z) i else 0) (ap some (sym same) ∙ new)
            ∙ sym (ap (λ t. if t then byte k.es (place.Image z) i else 0)
            (subst (λ w. is_in_place k.answers (place.Image w) i ≡ false) same (ap (λ t. t && nat_lt i (size_of k.answers y)) image_fetched ∙ ap (λ q. nat_lt i q) image_size_is ∙ f)))

        length_is : length (bytes_at k.es (place.Image y) 0 area) ≡ area
        length_is = length-map-range_with_len (λ i. byte k.es (place.Image y) i) 0 area

        cases : (p : Place) (i : ℕ) → bytes_after (put (place.Image y) 0 (bytes_at k.es (place.Image y) 0 area)) (bytes_shown k some) p i ≡ bytes_shown k (also y some) p i
        cases (place.Memory m) i = memory m i (y == m) refl
        cases (place.Image z) i =
            ap (λ q. if (y == z) && nat_le 0 i && nat_lt i (0 + q) then slice_index (bytes_at k.es (place.Image y) 0 area) (i - 0) else bytes_shown k some (place.Image z) i) length_is
            ∙ image z i (y == z) refl (nat_lt i (0 + area)) (ap (λ q. nat_lt i q) (let e : area ≡ 0 + area = omega arith in e))

    image_layout : layout_of k.answers y ≡ k.answers.layout y
    image_layout = ap (λ t. if t then k.answers.layout y else 0) image_usable

    module _ (some : ℕ → Bool) (new : some y ≡ false) (made : alsos parts (also x done) y ≡ true) where
      image_here : (shown_answers k n (having some)).live y ≡ Some (record { parent = x; detail = an_image format width height usage (Some j) })
      image_here = live_shown k n (having some) y made ∙ at

      image_passes : Passes (shown_answers k n (having some)) (checks_of (image_event k area y))
      unfolding id_of place_of row_of broken
      image_passes =
          let l : length (bytes_at k.es (place.Image y) 0 area) ≡ area = length-map-range_with_len (λ i. byte k.es (place.Image y) i) 0 area in
          let s : size_of (shown_answers k n (having some)) y ≡ area = ap (λ (l : Option Object). option_map_or (λ (o : Object). detail_size o.detail) l 0) image_here in
          let w : option_map_or (λ (o : Object). wanted_bytes o.detail (size_of (shown_answers k n (having some)) y)) ((shown_answers k n (having some)).live y) 0 ≡ area =
          ap (λ (l : Option Object). option_map_or (λ (o : Object). wanted_bytes o.detail (size_of (shown_answers k n (having some)) y)) l 0) image_here ∙ s in (
            refl,
            (
              live_ok k n (having some) kind.Image y made (ap (passes (λ o. kind_number (kind_of o.detail) == 7)) at),
              (
                ok _ _ (ap (λ (l : Option Object). is_some (option_and_then (λ (o : Object). detail_window (shown_answers k n (having some)) y o.detail) l)) image_here),
                (ok _ _ (orderly.layouts y), (ok _ _ (eq-eqb _ _ (l ∙ sym w)), tt)),
              ),
            ),
          )

      image_leaves : next (shown k n (having some)) (image_event k area y) ≡ shown k n (having (also y some))
      unfolding effect_of after
      image_leaves =
          ap (λ (l : Option Object). let r : Seen = record {
            answers = fold after (shown_answers k n (having some)) (taken ∷ changes (set_layout y (k.answers.layout y)) ∷ option_map_or (λ o. image_bytes_put o.detail y (bytes_at k.es (place.Image y) 0 area)) l []);
            bytes = fold bytes_step (bytes_shown k some) (taken ∷ changes (set_layout y (k.answers.layout y)) ∷ option_map_or (λ o. image_bytes_put o.detail y (bytes_at k.es (place.Image y) 0 area)) l []);
          } in r) image_here
          ∙ (λ i. record { answers = layout_shown k n (having some) y (k.answers.layout y) (ap is_some image_here) image_layout i; bytes = image_put some new i })

  images_build : (a : ℕ) (ys : List ℕ) (some : ℕ → Bool) → AreObjects k n orderly x (λ j. an_image format width height usage (Some j)) a ys → AreNew some ys →
      AllByRecursion (λ y. alsos parts (also x done) y ≡ true) ys → Builds (shown k n (having some)) (map (image_event k area) ys) (shown k n (having (alsos ys some)))
  images_build a [] some are new made = builds_none _ _ refl
  images_build a (y ∷ ys) some are new made =
      builds_call _ (shown k n (having (also y some))) _ (image_event k area y) (map (image_event k area) ys)
      (image_passes y a are.0 some new.0 made.0) (image_leaves y a are.0 some new.0 made.0)
      (images_build (a + 1) ys (also y some) are.1 new.1 made.1)

  pub all_images_build : Builds (shown k n marking) (map (image_event k area) parts) (shown k n (having (alsos parts done)))
  all_images_build = by (fetched_cases k.answers orderly x parent surface images format width height usage is)
    where
      by : (parts ≡ []) ⊎ (AreObjects k n orderly x (λ j. an_image format width height usage (Some j)) 0 parts × (length parts ≡ images)) →
          Builds (shown k n marking) (map (image_event k area) parts) (shown k n (having (alsos parts done)))
      by (inl none) = go parts none
        where
          go : (l : List ℕ) → l ≡ [] → Builds (shown k n marking) (map (image_event k area) l) (shown k n (having (alsos l done)))
          go [] e = builds_none _ _ refl
          go (i ∷ l) e = absurd (cc)
      by (inr all') = images_build 0 parts done all'.0
          (fetched_new k.answers orderly x parent surface images format width height usage is done 0 parts all'.0 (all_among (λ y. done y ≡ false) parts part_new))
          (all_among (λ y. alsos parts (also x done) y ≡ true) parts (λ y e. alsos-among parts (also x done) y e))
