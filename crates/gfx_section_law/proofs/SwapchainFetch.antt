-- A swapchain is created, and its images are fetched.
use Rattle.std.proofs.Common.{◌≡◌, ◌⊎◌, inl, inr, ℕ, ◌+◌, Bool, true, false, not, ◌&&◌, ◌||◌, ◌==◌, fold, List, [], ◌∷◌, length, filter, Option, Some, None, if◌then◌else◌, refl, sym, ap, subst, ◌∙◌, arith}
use Rattle.std.specs.List.{list_any, range_with_len}
use Rattle.std.specs.Option.{option_map_or}
use Rattle.std.proofs.lemmas.Bool.{eqb-true, eq-eqb, ne_eqb, both_ways, false_from_ne_true}
use Rattle.gfx_types.specs.declared.names.Fault.TheVariants.{ResultDiffers}
use Rattle.gfx_types.specs.declared.names.Kind.TheVariants as kind
use Rattle.gfx_model.specs.Events.Event.{CreateSwapchainKHR, GetSwapchainImagesKHR}
use Rattle.gfx_model.specs.Spelling.{id_of}
use Rattle.gfx_model.specs.Steps.{Step, Object, Detail, kind_of, kind_number}
use Rattle.gfx_model.specs.Steps.Step.{creates}
use Rattle.gfx_model.specs.Steps.Detail.{an_image, a_swapchain}
use Rattle.gfx_model.specs.Questions.{passes, image_size}
use Rattle.gfx_model.specs.Views.{is_live, is_one, parent_of, format_at, width_of, height_of, usage_in, images_in, has_index, fetched, has_swapchain, is_on, detail_format, detail_width, detail_height, detail_image_usage, detail_images}
use Rattle.gfx_model.specs.Checks.{broken, is_among, first, new_faults, images_fault, room_fault}
use Rattle.gfx_model.specs.Checks.Check.{the_images}
use Rattle.gfx_model.specs.Table.{checks_of, place_of, row_of}
use Rattle.gfx_model.specs.Effects.{effect_of, fetches, first_fetch}
use Rattle.gfx_model.specs.After.{after}
use Rattle.gfx_model.specs.Section.{Known, fetch_event}
use Rattle.gfx_section_law.specs.Orderly.{IsOrderly, IsMadeOf}
use Rattle.gfx_section_law.proofs.Picks.{pick, also, also-in, also-out}
use Rattle.gfx_section_law.proofs.Builds.{Seen, Builds, Passes, next, bytes_step, ok, builds_none, builds_one}
use Rattle.gfx_section_law.proofs.Shown.{Cuts, all, shown, shown_answers, bytes_shown}
use Rattle.gfx_section_law.proofs.Ranks.{live_object, is_part, goes_by, surface_before, device_before}
use Rattle.gfx_section_law.proofs.Objects.{live_shown, live_ok, new_ok, room_ok}
use Rattle.gfx_section_law.proofs.Plain.{Starts, only_made, new_here}
use Rattle.gfx_section_law.proofs.Memory.{room_for_ok}
use Rattle.gfx_section_law.proofs.Parts.{alsos, AreNew, filter-none, all_among}
use Rattle.gfx_section_law.proofs.Images.{fetched_cases, each_image, every_part, fetched_new, flat_none, image_of_test}
use Rattle.gfx_section_law.proofs.Many.{AreObjects, creations, many_shown, many_bytes, many_room, many_new}

pub any-none : (test : ℕ → Bool) (xs : List ℕ) → ((y : ℕ) → test y ≡ false) → list_any test xs ≡ false
any-none test [] each = refl
any-none test (x ∷ xs) each = ap (λ t. t || list_any test xs) (each x) ∙ any-none test xs each

-- what passes stands, and passed
pub passes_pick : (test : Object → Bool) (objects : ℕ → Option Object) (some : ℕ → Bool) (y : ℕ) → (some y ≡ true → passes test (objects y) ≡ false) → passes test (pick None objects some y) ≡ false
passes_pick test objects some y each = by (some y) refl
  where
    by : (t : Bool) → some y ≡ t → passes test (if t then objects y else None) ≡ false
    by true e = each e
    by false e = refl

on_detail : (s : ℕ) (d : Detail) → is_on s d ≡ true → (i : ℕ) × (f : ℕ) × (w : ℕ) × (h : ℕ) × (u : ℕ) × (d ≡ a_swapchain s i f w h u)
on_detail s (a_swapchain t i f w h u) e = (i, f, w, h, u, ap (λ z. a_swapchain z i f w h u) (eqb-true t s e))
on_detail s _ e = absurd (cc)

module _ (k : Known) (n : ℕ) (orderly : IsOrderly k.answers) (done : ℕ → Bool) (x parent surface images format width height usage : ℕ)
    (is : k.answers.live x ≡ Some (record { parent = parent; detail = a_swapchain surface images format width height usage })) (starts : Starts k.answers x 7 done) where
  abbrev pub d : Detail
  d = a_swapchain surface images format width height usage

  abbrev pub o : Object
  o = record { parent = parent; detail = d }

  abbrev pub area : ℕ
  area = image_size format width height

  abbrev pub parts : List ℕ
  parts = fetched k.answers x

  pub off : done x ≡ false
  off = new_here k n orderly done x parent d is starts refl

  made_of : IsMadeOf k.answers parent (a_swapchain surface images format width height usage)
  made_of = orderly.made x o is

  abbrev pub created : Cuts
  created = only_made k n orderly done x parent

  parent_done : done parent ≡ true
  parent_done = starts.low parent (device_before k.answers 7 parent made_of.0 (omega arith))

  surface_done : done surface ≡ true
  surface_done = starts.low surface (surface_before k.answers 7 surface made_of.1 (omega arith))

  -- ---- created

  no_other : has_swapchain (shown_answers k n (all done)) surface ≡ false
  no_other = any-none (is_one (shown_answers k n (all done)) (λ o. is_on surface o.detail)) (filter done k.answers.ids)
      (λ y. passes_pick (λ o. is_on surface o.detail) k.answers.live done y (λ on. false_from_ne_true _ (λ t.
      let q = live_object k.answers (λ o. is_on surface o.detail) y t in
      let e = on_detail surface (q.0).detail q.2 in
      let same : y ≡ x = orderly.one_chain y x (q.0).parent parent surface e.0 e.1 e.2 e.3 e.4 images format width height usage
      (q.1 ∙ ap (λ z. Some (record { parent = (q.0).parent; detail = z })) e.5) is in
      both_ways (done y) (ap done same ∙ off) on)))

  pub create_passes : Passes (shown_answers k n (all done)) (checks_of (CreateSwapchainKHR parent x surface images format width height usage))
  unfolding id_of place_of row_of broken
  create_passes =
      let up : (parent_of (shown_answers k n (all done)) parent == parent_of (shown_answers k n (all done)) surface) ≡ true =
      eq-eqb _ _ (ap (λ (l : Option Object). option_map_or (λ (o : Object). o.parent) l 0) (live_shown k n (all done) parent parent_done)
      ∙ sym made_of.2 ∙ sym (ap (λ (l : Option Object). option_map_or (λ (o : Object). o.parent) l 0) (live_shown k n (all done) surface surface_done))) in (
        live_ok k n (all done) kind.Device parent parent_done made_of.0,
        (
          live_ok k n (all done) kind.Surface surface surface_done made_of.1,
          (
            ok _ _ up,
            (
              new_ok k n orderly x parent d is (all done) off,
              (
                ok _ _ (ap not no_other),
                (
                  ok _ _ made_of.3,
                  (
                    ok _ _ made_of.4,
                    (
                      room_ok k n orderly x parent d is (all done) off,
                      (room_for_ok k n orderly done x parent d is off, tt),
                    ),
                  ),
                ),
              ),
            ),
          ),
        ),
      )

  -- ---- its images

  pub here : (c : Cuts) → c.made x ≡ true → (shown_answers k n c).live x ≡ Some o
  here c m = live_shown k n c x m ∙ is

  pub part_new : (i : ℕ) → is_among i parts ≡ true → done i ≡ false
  part_new i e =
      let m = each_image k.answers orderly x parent surface images format width height usage is i e in
      starts.new i (ap (passes (goes_by x i)) m.1 ∙ eq-eqb x x refl)

  part_other : (i : ℕ) → is_among i parts ≡ true → also x done i ≡ false
  part_other i e =
      let m = each_image k.answers orderly x parent surface images format width height usage is i e in
      let p = part_new i e in
      let q : (x == i) ≡ false = ne_eqb x i (λ same. let s : Some o ≡ Some (record { parent = x; detail = an_image format width height usage (Some m.0) }) = sym is ∙ ap k.answers.live same ∙ m.1 in
      let f : is_part d ≡ true = ap (λ (l : Option Object). passes (λ z. is_part z.detail) l) s in cc) in
      ap (λ t. t || done i) q ∙ p

  abbrev pub fetching : Cuts
  fetching = record created { made = alsos parts (also x done) }

  not_fetched : fetched (shown_answers k n created) x ≡ []
  not_fetched = flat_none (λ j. filter (is_one (shown_answers k n created) (λ o. o.parent == x && has_index j o.detail)) (filter (also x done) k.answers.ids)) (range_with_len 0 (images_in (shown_answers k n created) x))
      (λ j. filter-none _ (filter (also x done) k.answers.ids) (λ y e. passes_pick (λ o. o.parent == x && has_index j o.detail) k.answers.live (also x done) y (λ on. false_from_ne_true _ (λ t.
      let m = image_of_test k.answers orderly x parent surface images format width height usage is j y t in
      let p = every_part k.answers orderly x parent surface images format width height usage is y (ap (passes (λ q. is_part q.detail && (x == q.parent))) m.0 ∙ eq-eqb x x refl) in
      both_ways (also x done y) (part_other y p) on))))

  fetches_are : (j : ℕ) (ys : List ℕ) → fetches (shown_answers k n created) x j ys ≡ creations k n orderly x (λ j. an_image format width height usage (Some j)) j ys
  fetches_are j [] = refl
  fetches_are j (y ∷ ys) =
      let l = here created (also-in x done) in
      let a : format_at (shown_answers k n created) x ≡ format = ap (λ (l : Option Object). option_map_or (λ (o : Object). detail_format o.detail) l 0) l in
      let b : width_of (shown_answers k n created) x ≡ width = ap (λ (l : Option Object). option_map_or (λ (o : Object). detail_width o.detail) l 0) l in
      let c : height_of (shown_answers k n created) x ≡ height = ap (λ (l : Option Object). option_map_or (λ (o : Object). detail_height o.detail) l 0) l in
      let e : usage_in (shown_answers k n created) x ≡ usage = ap (λ (l : Option Object). option_map_or (λ (o : Object). detail_image_usage o.detail) l 0) l in
      (λ i. creates y x (an_image (a i) (b i) (c i) (e i) (Some j)) ∷ fetches_are (j + 1) ys i)

  pub images_now : (c : Cuts) → c.made x ≡ true → images_in (shown_answers k n c) x ≡ images
  images_now c m = ap (λ (l : Option Object). option_map_or (λ (o : Object). detail_images o.detail) l 0) (here c m)

  mine : (c : Cuts) → c.made x ≡ true → (parent_of (shown_answers k n c) x == parent) ≡ true
  mine c m = eq-eqb _ _ (ap (λ (l : Option Object). option_map_or (λ (o : Object). o.parent) l 0) (here c m))

  pub lives : is_live k.answers kind.Swapchain x ≡ true
  lives = ap (passes (λ o. kind_number (kind_of o.detail) == 12)) is

  module _ (are : AreObjects k n orderly x (λ j. an_image format width height usage (Some j)) 0 parts) (count : length parts ≡ images) where
    are_new_parts : AreNew (also x done) parts
    are_new_parts = fetched_new k.answers orderly x parent surface images format width height usage is (also x done) 0 parts are (all_among (λ y. also x done y ≡ false) parts part_other)

    images_pass : broken (shown_answers k n created) (the_images x parts) ≡ None
    unfolding broken
    images_pass =
        ap (λ l. images_fault (shown_answers k n created) (images_in (shown_answers k n created) x) l parts) not_fetched
        ∙ ap (λ t. first t (first (new_faults (shown_answers k n created) [] parts) (room_fault (shown_answers k n created) (length parts))))
        (ok _ ResultDiffers (eq-eqb _ _ (count ∙ sym (images_now created (also-in x done)))))
        ∙ ap (λ t. first t (room_fault (shown_answers k n created) (length parts)))
        (many_new k n orderly x (λ j. an_image format width height usage (Some j)) 0 parts created (also x done) [] are are_new_parts (λ y e. (e, refl)))
        ∙ many_room k n orderly x (λ j. an_image format width height usage (Some j)) 0 parts created are are_new_parts

    fetch_leaves : next (shown k n created) (GetSwapchainImagesKHR parent x parts) ≡ shown k n fetching
    unfolding effect_of after
    fetch_leaves =
        ap (λ l. let r : Seen = record {
          answers = fold after (shown_answers k n created) (first_fetch l (fetches (shown_answers k n created) x 0 parts));
          bytes = fold bytes_step (bytes_shown k done) (first_fetch l (fetches (shown_answers k n created) x 0 parts));
        } in r) not_fetched
        ∙ ap (λ (ss : List Step). let r : Seen = record { answers = fold after (shown_answers k n created) ss; bytes = fold bytes_step (bytes_shown k done) ss } in r) (fetches_are 0 parts)
        ∙ (λ i. record {
          answers = many_shown k n orderly x (λ j. an_image format width height usage (Some j)) 0 parts created are are_new_parts
              (all_among (λ y. (done y ≡ false) × (done y ≡ false) × (done y ≡ false) × (done y ≡ false) × (done y ≡ false)) parts (λ y e. let p = part_new y e in (p, p, p, p, p))) i;
          bytes = many_bytes k n orderly x (λ j. an_image format width height usage (Some j)) 0 parts (bytes_shown k done) i;
        })

  pub fetch_builds : (l : List ℕ) → parts ≡ l → Builds (shown k n created) (fetch_event parent x l) (shown k n fetching)
  unfolding id_of place_of row_of broken
  fetch_builds [] e = builds_none _ _ (ap (λ (l : List ℕ). shown k n (record created { made = alsos l (also x done) })) (sym e))
  fetch_builds (i ∷ ys) e = by (fetched_cases k.answers orderly x parent surface images format width height usage is)
    where
      by : (parts ≡ []) ⊎ (AreObjects k n orderly x (λ j. an_image format width height usage (Some j)) 0 parts × (length parts ≡ images)) →
          Builds (shown k n created) (GetSwapchainImagesKHR parent x (i ∷ ys) ∷ []) (shown k n fetching)
      by (inl none) = absurd (let z : i ∷ ys ≡ [] = sym e ∙ none in cc)
      by (inr all') =
          subst (λ l. Builds (shown k n created) (GetSwapchainImagesKHR parent x l ∷ []) (shown k n fetching)) e
          (builds_one _ _ (GetSwapchainImagesKHR parent x parts) (
            live_ok k n created kind.Device parent (also-out x done parent parent_done) made_of.0,
            (
              live_ok k n created kind.Swapchain x (also-in x done) lives,
              (ok _ _ (mine created (also-in x done)), (images_pass all'.0 all'.1, tt)),
            ),
          )
          (fetch_leaves all'.0 all'.1))
