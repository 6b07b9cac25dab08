-- The buffers of a pool: they are live and listed, and are allocated together.
use Rattle.std.proofs.Common.{◌≡◌, ℕ, suc, ◌+◌, ◌≤◌, Bool, true, false, ◌&&◌, ◌||◌, ◌==◌, nat_le, fold, List, [], ◌∷◌, length, map, Option, Some, None, refl, sym, ap, subst, ◌∙◌, arith, is_some}
use Rattle.std.specs.List.{AllByRecursion}
use Rattle.std.specs.Option.{option_map_or}
use Rattle.std.proofs.lemmas.Bool.{eqb-true, eq-eqb, ne_eqb, and_parts}
use Rattle.std.proofs.lemmas.Bool.Decides.{nat_tests}
use Rattle.gfx_types.specs.declared.names.Kind.TheVariants as kind
use Rattle.gfx_model.specs.Events.Event.{AllocateCommandBuffers}
use Rattle.gfx_model.specs.Spelling.{id_of}
use Rattle.gfx_model.specs.Steps.{Step, Object, Detail, kind_of, kind_number}
use Rattle.gfx_model.specs.Steps.Step.{creates}
use Rattle.gfx_model.specs.Steps.Detail.{an_image, a_pool, a_command_buffer, a_swapchain}
use Rattle.gfx_model.specs.Questions.{passes}
use Rattle.gfx_model.specs.Views.{is_live, parent_of}
use Rattle.gfx_model.specs.Checks.{broken, is_among}
use Rattle.gfx_model.specs.Table.{checks_of, place_of, row_of, new_each}
use Rattle.gfx_model.specs.Effects.{effect_of}
use Rattle.gfx_model.specs.After.{after}
use Rattle.gfx_model.specs.Section.{Known, buffers_of, live_ids, allocate_event}
use Rattle.gfx_model.proofs.Lists.{all_append}
use Rattle.gfx_laws.specs.Lawful.{IsRising}
use Rattle.gfx_section_law.specs.Orderly.{IsOrderly, IsMadeOf}
use Rattle.gfx_section_law.proofs.Picks.{also, also-in, also-out, length-filter}
use Rattle.gfx_section_law.proofs.Builds.{Seen, Builds, Passes, next, bytes_step, ok, builds_none, builds_one}
use Rattle.gfx_section_law.proofs.Shown.{Cuts, shown, shown_answers, bytes_shown}
use Rattle.gfx_section_law.proofs.Ranks.{live_object, is_part, goes_by, device_before}
use Rattle.gfx_section_law.proofs.Objects.{live_shown, live_ok}
use Rattle.gfx_section_law.proofs.Plain.{Starts, only_made, new_here}
use Rattle.gfx_laws.proofs.LawfulIds.{rising_filter}
use Rattle.gfx_section_law.proofs.Parts.{alsos, alsos-out, alsos-among, AreNew, are_new, all_among, among_filter, filtered, in_filtered}
use Rattle.gfx_section_law.proofs.Many.{AreObjects, creations, many_shown, many_bytes, many_room, many_new_each}

module _ (k : Known) (n : ℕ) (orderly : IsOrderly k.answers) (done : ℕ → Bool) (x parent flags : ℕ)
    (is : k.answers.live x ≡ Some (record { parent = parent; detail = a_pool flags })) (starts : Starts k.answers x 10 done) where
  abbrev pub d : Detail
  d = a_pool flags

  abbrev pub o : Object
  o = record { parent = parent; detail = d }

  abbrev pub parts : List ℕ
  parts = buffers_of k x

  pub off : done x ≡ false
  off = new_here k n orderly done x parent d is starts refl

  pub made_of : IsMadeOf k.answers parent (a_pool flags)
  made_of = orderly.made x o is

  abbrev pub created : Cuts
  created = only_made k n orderly done x parent

  pub parent_done : done parent ≡ true
  parent_done = starts.low parent (device_before k.answers 10 parent made_of.0 (omega arith))

  abbrev pub cb_object : Object
  cb_object = record { parent = x; detail = a_command_buffer }

  -- ---- its buffers

  cb_detail : (d : Detail) → (kind_number (kind_of d) == 9) ≡ true → d ≡ a_command_buffer
  cb_detail a_command_buffer e = refl
  cb_detail _ e = absurd (cc)

  pub part_live : (i : ℕ) → is_among i parts ≡ true → k.answers.live i ≡ Some cb_object
  part_live i e =
      let up : (parent_of k.answers i == x) ≡ true = filtered (λ cb. parent_of k.answers cb == x) i (live_ids k.answers kind.CommandBuffer) e in
      let l : is_live k.answers kind.CommandBuffer i ≡ true = filtered (is_live k.answers kind.CommandBuffer) i k.answers.ids (in_filtered (λ cb. parent_of k.answers cb == x) i (live_ids k.answers kind.CommandBuffer) e) in
      let q = live_object k.answers (λ o. kind_number (kind_of o.detail) == 9) i l in
      let p : (q.0).parent ≡ x = sym (ap (λ (l : Option Object). option_map_or (λ (o : Object). o.parent) l 0) q.1) ∙ eqb-true (parent_of k.answers i) x up in
      q.1 ∙ (λ j. Some (record { parent = p j; detail = cb_detail (q.0).detail q.2 j }))

  pub each_part : (i : ℕ) → is_among i parts ≡ true → passes (λ q. is_part q.detail && (x == q.parent)) (k.answers.live i) ≡ true
  each_part i e = ap (passes (λ q. is_part q.detail && (x == q.parent))) (part_live i e) ∙ eq-eqb x x refl

  part_detail : (i : ℕ) (d : Detail) → is_part d ≡ true → IsMadeOf k.answers x d → d ≡ a_command_buffer
  part_detail i a_command_buffer p m = refl
  part_detail i (an_image f w h u (Some j)) p m = absurd (let s : Some o ≡ Some (record { parent = m.parent; detail = a_swapchain m.surface m.images f w h u }) = sym is ∙ m.is_live in
      let z : 8 ≡ 12 = ap (λ (l : Option Object). option_map_or (λ (o : Object). kind_number (kind_of o.detail)) l 0) s in omega (arith, z))
  part_detail i (an_image f w h u None) p m = absurd (cc)
  part_detail i _ p m = absurd (cc)

  pub every_part : (i : ℕ) → passes (λ q. is_part q.detail && (x == q.parent)) (k.answers.live i) ≡ true → is_among i parts ≡ true
  every_part i e =
      let q = live_object k.answers (λ q. is_part q.detail && (x == q.parent)) i e in
      let both = and_parts (is_part (q.0).detail) (x == (q.0).parent) q.2 in
      let up : x ≡ (q.0).parent = eqb-true x (q.0).parent both.1 in
      let made = subst (λ p. IsMadeOf k.answers p (q.0).detail) (sym up) (orderly.made i q.0 q.1) in
      let at : k.answers.live i ≡ Some cb_object = q.1 ∙ (λ j. Some (record { parent = sym up j; detail = part_detail i (q.0).detail both.0 made j })) in
      among_filter (λ cb. parent_of k.answers cb == x) i (live_ids k.answers kind.CommandBuffer)
      (eq-eqb _ _ (ap (λ (l : Option Object). option_map_or (λ (o : Object). o.parent) l 0) at))
      (among_filter (is_live k.answers kind.CommandBuffer) i k.answers.ids (ap (passes (λ o. kind_number (kind_of o.detail) == 9)) at) (orderly.listed i ∙ ap is_some at))

  pub part_new : (i : ℕ) → is_among i parts ≡ true → done i ≡ false
  part_new i e = starts.new i (ap (passes (goes_by x i)) (part_live i e) ∙ eq-eqb x x refl)

  part_other : (i : ℕ) → is_among i parts ≡ true → also x done i ≡ false
  part_other i e =
      let q : (x == i) ≡ false = ne_eqb x i (λ same. let s : Some o ≡ Some cb_object = sym is ∙ ap k.answers.live same ∙ part_live i e in
      let z : 8 ≡ 9 = ap (λ (l : Option Object). option_map_or (λ (o : Object). kind_number (kind_of o.detail)) l 0) s in omega (arith, z)) in
      ap (λ t. t || done i) q ∙ part_new i e

  pub rising_parts : IsRising parts
  rising_parts = rising_filter (λ cb. parent_of k.answers cb == x) (live_ids k.answers kind.CommandBuffer) (rising_filter (is_live k.answers kind.CommandBuffer) k.answers.ids orderly.rising)

  are_parts : (a : ℕ) (ys : List ℕ) → AllByRecursion (λ y. k.answers.live y ≡ Some cb_object) ys → AreObjects k n orderly x (λ j. a_command_buffer) a ys
  are_parts a [] l = tt
  are_parts a (y ∷ ys) l = (l.0, are_parts (a + 1) ys l.1)

  all_parts : AreObjects k n orderly x (λ j. a_command_buffer) 0 parts
  all_parts = are_parts 0 parts (all_among (λ y. k.answers.live y ≡ Some cb_object) parts part_live)

  new_parts : AreNew (also x done) parts
  new_parts = are_new parts (also x done) (all_among (λ y. also x done y ≡ false) parts part_other) rising_parts

  abbrev pub everything : ℕ → Bool
  everything = alsos parts (also x done)

  abbrev pub allocated : Cuts
  allocated = record created { made = everything }

  here : (c : Cuts) → c.made x ≡ true → (shown_answers k n c).live x ≡ Some o
  here c m = live_shown k n c x m ∙ is

  mine : (c : Cuts) → c.made x ≡ true → (parent_of (shown_answers k n c) x == parent) ≡ true
  mine c m = eq-eqb _ _ (ap (λ (l : Option Object). option_map_or (λ (o : Object). o.parent) l 0) (here c m))

  lives : is_live k.answers kind.Pool x ≡ true
  lives = ap (passes (λ o. kind_number (kind_of o.detail) == 8)) is

  creations_are : (a : ℕ) (ys : List ℕ) → map (λ cb. creates cb x a_command_buffer) ys ≡ creations k n orderly x (λ j. a_command_buffer) a ys
  creations_are a [] = refl
  creations_are a (y ∷ ys) = ap (λ ss. creates y x a_command_buffer ∷ ss) (creations_are (a + 1) ys)

  few_parts : length parts ≤ 65536
  few_parts =
      let a = length-filter (λ cb. parent_of k.answers cb == x) (live_ids k.answers kind.CommandBuffer) in
      let b = length-filter (is_live k.answers kind.CommandBuffer) k.answers.ids in
      let c = orderly.few in omega (arith, a, b, c)

  allocate_passes : (i : ℕ) (ys : List ℕ) → parts ≡ i ∷ ys → Passes (shown_answers k n created) (checks_of (AllocateCommandBuffers parent x parts))
  unfolding id_of place_of row_of broken
  allocate_passes i ys e =
      let f = few_parts in
      let l : length parts ≡ suc (length ys) = ap (λ (l : List ℕ). length l) e in
      let some : nat_le 1 (length parts) ≡ true = grind (arith, nat_tests, l) in
      let most : nat_le (length parts) 65536 ≡ true = grind (arith, nat_tests, f) in (
        live_ok k n created kind.Device parent (also-out x done parent parent_done) made_of.0,
        (
          live_ok k n created kind.Pool x (also-in x done) lives,
          (
            ok _ _ (mine created (also-in x done)),
            (
              ok _ _ some,
              (
                ok _ _ most,
                all_append (λ c. broken (shown_answers k n created) c ≡ None) (new_each [] parts) _
                    (many_new_each k n orderly x (λ j. a_command_buffer) 0 parts created (also x done) [] all_parts new_parts (λ y e. (e, refl)))
                    (many_room k n orderly x (λ j. a_command_buffer) 0 parts created all_parts new_parts, tt),
              ),
            ),
          ),
        ),
      )

  allocate_leaves : next (shown k n created) (AllocateCommandBuffers parent x parts) ≡ shown k n allocated
  unfolding effect_of after
  allocate_leaves =
      ap (λ (ss : List Step). let r : Seen = record { answers = fold after (shown_answers k n created) ss; bytes = fold bytes_step (bytes_shown k done) ss } in r) (creations_are 0 parts)
      ∙ (λ i. record {
        answers = many_shown k n orderly x (λ j. a_command_buffer) 0 parts created all_parts new_parts
            (all_among (λ y. (done y ≡ false) × (done y ≡ false) × (done y ≡ false) × (done y ≡ false) × (done y ≡ false)) parts (λ y e. let p = part_new y e in (p, p, p, p, p))) i;
        bytes = many_bytes k n orderly x (λ j. a_command_buffer) 0 parts (bytes_shown k done) i;
      })

  pub allocate_builds : (l : List ℕ) → parts ≡ l → Builds (shown k n created) (allocate_event parent x l) (shown k n allocated)
  allocate_builds [] e = builds_none _ _ (ap (λ (l : List ℕ). shown k n (record created { made = alsos l (also x done) })) (sym e))
  allocate_builds (i ∷ ys) e =
      subst (λ l. Builds (shown k n created) (AllocateCommandBuffers parent x l ∷ []) (shown k n allocated)) e
      (builds_one _ _ (AllocateCommandBuffers parent x parts) (allocate_passes i ys e) allocate_leaves)

  -- ---- what stands when the recordings begin

  abbrev pub having : (ℕ → Bool) → Cuts
  having some = record allocated { buffer = some }

  -- x, its buffers and all that is before them are as they were
  pub agrees_done : (some : ℕ → Bool) (y : ℕ) → done y ≡ true → (shown_answers k n (having some)).live y ≡ k.answers.live y
  agrees_done some y e = live_shown k n (having some) y (alsos-out parts (also x done) y (also-out x done y e))

  pub agrees_x : (some : ℕ → Bool) → (shown_answers k n (having some)).live x ≡ k.answers.live x
  agrees_x some = live_shown k n (having some) x (alsos-out parts (also x done) x (also-in x done))

  pub agrees_part : (some : ℕ → Bool) (y : ℕ) → is_among y parts ≡ true → (shown_answers k n (having some)).live y ≡ k.answers.live y
  agrees_part some y e = live_shown k n (having some) y (alsos-among parts (also x done) y e)
