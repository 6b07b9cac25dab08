-- The objects of a kind, one after another, and the kinds in order.
use Rattle.std.proofs.Common.{◌≡◌, ℕ, suc, ◌+◌, ◌<◌, Bool, true, false, ◌||◌, ◌==◌, nat_lt, List, [], ◌∷◌, length, flat_map, Option, Some, None, if◌then◌else◌, refl, sym, ap, subst, ◌∙◌, arith, is_some}
use mathlib.Core.Path.{fun_ext}
use Rattle.std.specs.List.{AllByRecursion, list_any}
use Rattle.std.specs.Option.{option_map_or}
use Rattle.std.proofs.lemmas.Bool.{eqb-true, eq-eqb, both_ways, false_from_ne_true, or_right}
use Rattle.std.proofs.lemmas.Bool.Decides.{nat_tests}
use Rattle.gfx_types.specs.declared.names.Kind.{Kind}
use Rattle.gfx_types.specs.declared.names.Kind.TheVariants as kind
use Rattle.gfx_model.specs.Events.{Event}
use Rattle.gfx_model.specs.Steps.{Object, Detail, kind_of, kind_number}
use Rattle.gfx_model.specs.Steps.Detail.{an_instance, a_surface, a_device, a_queue, a_memory, a_buffer, an_image, a_pool, a_command_buffer, a_fence, a_semaphore, a_swapchain}
use Rattle.gfx_model.specs.Questions.{passes}
use Rattle.gfx_model.specs.Views.{is_live}
use Rattle.gfx_model.specs.Checks.{is_among}
use Rattle.gfx_model.specs.Section.{Known, live_ids, object_events, group}
use Rattle.gfx_laws.specs.Lawful.{IsRising}
use Rattle.gfx_section_law.specs.Orderly.{IsOrderly, IsMadeOf}
use Rattle.gfx_section_law.proofs.Builds.{Builds, builds_none, builds_append, builds_to}
use Rattle.gfx_section_law.proofs.Shown.{all, shown}
use Rattle.gfx_section_law.proofs.Ranks.{rank, live_object, is_part, before, goes, goes_by, joined, joined_nothing}
use Rattle.gfx_section_law.proofs.Plain.{Starts, Block, instance_block, surface_block, device_block, queue_block, fence_block, semaphore_block}
use Rattle.gfx_section_law.proofs.Bound.{buffer_block, image_block}
use Rattle.gfx_section_law.proofs.Memory.{memory_block}
use Rattle.gfx_section_law.proofs.Swapchain.{swapchain_block}
use Rattle.gfx_section_law.proofs.SwapchainFetch.{any-none}
use Rattle.gfx_section_law.proofs.Pool.{pool_block}
use Rattle.gfx_laws.proofs.LawfulIds.{rising_filter}
use Rattle.gfx_section_law.proofs.Parts.{all_among, among_filter, filtered}

-- the place of a kind in the section
abbrev pub kind_rank : Kind → ℕ
kind_rank kind.Instance = 0
kind_rank kind.Surface = 1
kind_rank kind.Device = 2
kind_rank kind.Queue = 3
kind_rank kind.Memory = 4
kind_rank kind.Buffer = 5
kind_rank kind.Image = 6
kind_rank kind.Swapchain = 7
kind_rank kind.Fence = 8
kind_rank kind.Semaphore = 9
kind_rank kind.Pool = 10
kind_rank kind.CommandBuffer = 11

rank_of_number : ℕ → ℕ
rank_of_number n =
    if n == 1 then 0 else if n == 2 then 1 else if n == 3 then 2 else if n == 4 then 3 else if n == 5 then 4 else if n == 6 then 5
    else if n == 7 then 6 else if n == 12 then 7 else if n == 10 then 8 else if n == 11 then 9 else if n == 8 then 10 else 11

number_of_rank : ℕ → ℕ
number_of_rank n =
    if n == 0 then 1 else if n == 1 then 2 else if n == 2 then 3 else if n == 3 then 4 else if n == 4 then 5 else if n == 5 then 6
    else if n == 6 then 7 else if n == 7 then 12 else if n == 8 then 10 else if n == 9 then 11 else if n == 10 then 8 else 9

rank_number : (j : Kind) → rank_of_number (kind_number j) ≡ kind_rank j
unfolding rank_of_number
rank_number kind.Instance = refl
rank_number _ = refl

number_rank : (j : Kind) → number_of_rank (kind_rank j) ≡ kind_number j
unfolding number_of_rank
number_rank kind.Instance = refl
number_rank _ = refl

same_kind : (i j : Kind) → (kind_number i == kind_number j) ≡ (kind_rank i == kind_rank j)
same_kind i j = by (kind_number i == kind_number j) refl (kind_rank i == kind_rank j) refl
  where
    by : (t : Bool) → (kind_number i == kind_number j) ≡ t → (u : Bool) → (kind_rank i == kind_rank j) ≡ u → t ≡ u
    by true e true f = refl
    by false e false f = refl
    by true e false f = absurd (both_ways (kind_rank i == kind_rank j) f (eq-eqb _ _ (sym (rank_number i) ∙ ap rank_of_number (eqb-true _ _ e) ∙ rank_number j)))
    by false e true f = absurd (both_ways (kind_number i == kind_number j) e (eq-eqb _ _ (sym (number_rank i) ∙ ap number_of_rank (eqb-true _ _ f) ∙ number_rank j)))

own_rank : (d : Detail) → is_part d ≡ false → kind_rank (kind_of d) ≡ rank d
own_rank (an_image f w h u (Some j)) e = absurd (cc)
own_rank (an_image f w h u None) e = refl
own_rank a_command_buffer e = absurd (cc)
own_rank _ e = refl

-- ---- one object

module _ (k : Known) (n : ℕ) (orderly : IsOrderly k.answers) where
  block : (done : ℕ → Bool) (x parent : ℕ) (d : Detail) → k.answers.live x ≡ Some (record { parent = parent; detail = d }) → is_part d ≡ false → Starts k.answers x (rank d) done → Block k n x parent d done
  block done x parent (an_instance api) is own s = instance_block k n orderly done x parent api is s
  block done x parent a_surface is own s = surface_block k n orderly done x parent is s
  block done x parent a_device is own s = device_block k n orderly done x parent is s
  block done x parent a_queue is own s = queue_block k n orderly done x parent is s
  block done x parent (a_memory size) is own s = memory_block k n orderly done x parent size is s
  block done x parent (a_buffer size usage) is own s = buffer_block k n orderly done x parent size usage is s (orderly.no_layouts x (record { parent = parent; detail = a_buffer size usage }) is refl)
  block done x parent (an_image f w h u None) is own s = image_block k n orderly done x parent f w h u is s
  block done x parent (an_image f w h u (Some j)) is own s = absurd (cc)
  block done x parent (a_pool flags) is own s = pool_block k n orderly done x parent flags is s
  block done x parent a_command_buffer is own s = absurd (cc)
  block done x parent a_fence is own s = fence_block k n orderly done x parent is s
  block done x parent a_semaphore is own s = semaphore_block k n orderly done x parent is s
  block done x parent (a_swapchain su i f w h u) is own s = swapchain_block k n orderly done x parent su i f w h u is s

  part_block : (done : ℕ → Bool) (x parent : ℕ) (d : Detail) → k.answers.live x ≡ Some (record { parent = parent; detail = d }) → is_part d ≡ true → Block k n x parent d done
  part_block done x parent (an_image f w h u (Some j)) is own =
      builds_none _ _ (ap (λ (g : ℕ → Bool). shown k n (all g)) (joined_nothing k.answers orderly x (record { parent = parent; detail = an_image f w h u (Some j) }) is refl refl done))
  part_block done x parent a_command_buffer is own =
      builds_none _ _ (ap (λ (g : ℕ → Bool). shown k n (all g)) (joined_nothing k.answers orderly x (record { parent = parent; detail = a_command_buffer }) is refl refl done))
  part_block done x parent (an_image f w h u None) is own = absurd (cc)
  part_block done x parent _ is own = absurd (cc)

  -- ---- what an object goes with

  pub record Head (y : ℕ) (o : Object) : Type 0 where
    pub head : ℕ
    pub object : Object
    pub is_live : k.answers.live head ≡ Some object
    pub goes_with : (x : ℕ) → goes k.answers x y ≡ (x == head)
    pub same_rank : kind_rank (kind_of object.detail) ≡ rank o.detail

  head_of : (y : ℕ) (o : Object) → k.answers.live y ≡ Some o → Head y o
  head_of y o is = by o.parent o.detail (is) (orderly.made y o is)
    where
      alone : (p : ℕ) (d : Detail) → k.answers.live y ≡ Some (record { parent = p; detail = d }) → is_part d ≡ false → Head y (record { parent = p; detail = d })
      alone p d e own = record {
        head = y;
        object = record { parent = p; detail = d };
        is_live = e;
        goes_with = λ x. ap (passes (goes_by x y)) e ∙ ap (λ b. if b then x == p else x == y) own;
        same_rank = own_rank d own;
      }

      pool_detail : (d : Detail) → (kind_number (kind_of d) == 8) ≡ true → kind_rank (kind_of d) ≡ 10
      pool_detail (a_pool flags) e = refl
      pool_detail _ e = absurd (cc)

      by : (p : ℕ) (d : Detail) → k.answers.live y ≡ Some (record { parent = p; detail = d }) → IsMadeOf k.answers p d → Head y (record { parent = p; detail = d })
      by p (an_image f w h u (Some j)) e m = record {
        head = p;
        object = record { parent = m.parent; detail = a_swapchain m.surface m.images f w h u };
        is_live = m.is_live;
        goes_with = λ x. ap (passes (goes_by x y)) e;
        same_rank = refl;
      }
      by p a_command_buffer e m =
          let q = live_object k.answers (λ o. kind_number (kind_of o.detail) == 8) p m in
          record {
            head = p;
            object = q.0;
            is_live = q.1;
            goes_with = λ x. ap (passes (goes_by x y)) e;
            same_rank = pool_detail (q.0).detail q.2;
          }
      by p (an_image f w h u None) e m = alone p (an_image f w h u None) e refl
      by p (an_instance api) e m = alone p (an_instance api) e refl
      by p a_surface e m = alone p a_surface e refl
      by p a_device e m = alone p a_device e refl
      by p a_queue e m = alone p a_queue e refl
      by p (a_memory s) e m = alone p (a_memory s) e refl
      by p (a_buffer s u) e m = alone p (a_buffer s u) e refl
      by p (a_pool f) e m = alone p (a_pool f) e refl
      by p a_fence e m = alone p a_fence e refl
      by p a_semaphore e m = alone p a_semaphore e refl
      by p (a_swapchain s i f w h u) e m = alone p (a_swapchain s i f w h u) e refl

  goes_once : (x z y : ℕ) → goes k.answers x y ≡ true → goes k.answers z y ≡ true → x ≡ z
  goes_once x z y a b =
      let q = live_object k.answers (goes_by x y) y a in
      let h = head_of y q.0 q.1 in
      eqb-true x h.head (sym (h.goes_with x) ∙ a) ∙ sym (eqb-true z h.head (sym (h.goes_with z) ∙ b))

  -- ---- the objects of a kind

  abbrev pub joined_all : List ℕ → (ℕ → Bool) → ℕ → Bool
  joined_all [] done = done
  joined_all (x ∷ xs) done = joined_all xs (joined k.answers x done)

  joined-at : (xs : List ℕ) (done : ℕ → Bool) (y : ℕ) → joined_all xs done y ≡ list_any (λ x. goes k.answers x y) xs || done y
  joined-at [] done y = refl
  joined-at (x ∷ xs) done y = joined-at xs (joined k.answers x done) y ∙ turn (list_any (λ x. goes k.answers x y) xs) (goes k.answers x y) (done y)
    where
      turn : (a b c : Bool) → a || (b || c) ≡ (b || a) || c
      turn true true c = refl
      turn true false c = refl
      turn false true c = refl
      turn false false c = refl

  abbrev blocks : ℕ → List Event
  blocks x = option_map_or (λ o. object_events k x o.parent o.detail) (k.answers.live x) []

  module _ (j : Kind) where
    kind_at : (x : ℕ) (o : Object) → k.answers.live x ≡ Some o → is_live k.answers j x ≡ (kind_rank (kind_of o.detail) == kind_rank j)
    kind_at x o is = ap (passes (λ o. kind_number (kind_of o.detail) == kind_number j)) is ∙ same_kind (kind_of o.detail) j

    one_block : (done : ℕ → Bool) (x : ℕ) → is_live k.answers j x ≡ true → ((y : ℕ) → before k.answers (kind_rank j) y ≡ true → done y ≡ true) →
        ((y : ℕ) → goes k.answers x y ≡ true → done y ≡ false) → Builds (shown k n (all done)) (blocks x) (shown k n (all (joined k.answers x done)))
    one_block done x l low new =
        let q = live_object k.answers (λ o. kind_number (kind_of o.detail) == kind_number j) x l in
        subst (λ (o : Option Object). Builds (shown k n (all done)) (option_map_or (λ o. object_events k x o.parent o.detail) o []) (shown k n (all (joined k.answers x done)))) (sym q.1)
        (by q.0 q.1 (is_part (q.0).detail) refl)
      where
        by : (o : Object) → k.answers.live x ≡ Some o → (t : Bool) → is_part o.detail ≡ t → Block k n x o.parent o.detail done
        by o is true p = part_block done x o.parent o.detail is p
        by o is false p =
            let r : rank o.detail ≡ kind_rank j = sym (own_rank o.detail p) ∙ eqb-true _ _ (sym (kind_at x o is) ∙ l) in
            block done x o.parent o.detail is p (record { low = λ y b. low y (ap (λ r. before k.answers r y) (sym r) ∙ b); new = new })

    blocks_build : (xs : List ℕ) (done : ℕ → Bool) → IsRising xs → AllByRecursion (λ x. is_live k.answers j x ≡ true) xs →
        ((y : ℕ) → before k.answers (kind_rank j) y ≡ true → done y ≡ true) →
        AllByRecursion (λ x. (y : ℕ) → goes k.answers x y ≡ true → done y ≡ false) xs →
        Builds (shown k n (all done)) (flat_map blocks xs) (shown k n (all (joined_all xs done)))
    blocks_build [] done r a low new = builds_none _ _ refl
    blocks_build (x ∷ xs) done r a low new =
        builds_append (blocks x) (flat_map blocks xs) _ _ _ (one_block done x a.0 low new.0)
        (blocks_build xs (joined k.answers x done) r.1 a.1 (λ y b. or_right (goes k.answers x y) (done y) (low y b)) (later xs r.0 new.1))
      where
        later : (zs : List ℕ) → AllByRecursion (λ z. x < z) zs → AllByRecursion (λ z. (y : ℕ) → goes k.answers z y ≡ true → done y ≡ false) zs →
            AllByRecursion (λ z. (y : ℕ) → goes k.answers z y ≡ true → joined k.answers x done y ≡ false) zs
        later [] b c = tt
        later (z ∷ zs) b c = (
          (λ y g.
              let other : goes k.answers x y ≡ false = false_from_ne_true (goes k.answers x y) (λ h. let s = goes_once x z y h g in let l = b.0 in omega (arith, s, l)) in
              ap (λ t. t || done y) other ∙ c.0 y g),
          later zs b.1 c.1,
        )

    -- what is before the next kind
    next_before : (y : ℕ) → joined_all (live_ids k.answers j) (before k.answers (kind_rank j)) y ≡ before k.answers (suc (kind_rank j)) y
    next_before y = joined-at (live_ids k.answers j) (before k.answers (kind_rank j)) y ∙ by (k.answers.live y) refl
      where
        by : (l : Option Object) → k.answers.live y ≡ l →
            list_any (λ x. passes (goes_by x y) (k.answers.live y)) (live_ids k.answers j) || passes (λ o. nat_lt (rank o.detail) (kind_rank j)) (k.answers.live y)
            ≡ passes (λ o. nat_lt (rank o.detail) (suc (kind_rank j))) (k.answers.live y)
        by None e =
            (λ i. list_any (λ x. passes (goes_by x y) (e i)) (live_ids k.answers j) || passes (λ o. nat_lt (rank o.detail) (kind_rank j)) (e i))
            ∙ ap (λ t. t || false) (any-none (λ x. false) (live_ids k.answers j) (λ x. refl))
            ∙ sym (ap (passes (λ o. nat_lt (rank o.detail) (suc (kind_rank j)))) e)
        by (Some o) e =
            let h = head_of y o e in
            let a : list_any (λ x. goes k.answers x y) (live_ids k.answers j) ≡ is_among h.head (live_ids k.answers j) = ap (λ (f : ℕ → Bool). list_any f (live_ids k.answers j)) (fun_ext h.goes_with) in
            let b : is_among h.head (live_ids k.answers j) ≡ is_live k.answers j h.head = among h.head h.object h.is_live in
            let c : is_live k.answers j h.head ≡ (rank o.detail == kind_rank j) = kind_at h.head h.object h.is_live ∙ ap (λ r. r == kind_rank j) h.same_rank in
            (λ i. (a ∙ b ∙ c) i || passes (λ o. nat_lt (rank o.detail) (kind_rank j)) (e i))
            ∙ step (rank o.detail) (kind_rank j)
            ∙ sym (ap (passes (λ o. nat_lt (rank o.detail) (suc (kind_rank j)))) e)
          where
            step : (r m : ℕ) → (r == m) || nat_lt r m ≡ nat_lt r (suc m)
            step r m = grind (arith, nat_tests)

            among : (h : ℕ) (q : Object) → k.answers.live h ≡ Some q → is_among h (live_ids k.answers j) ≡ is_live k.answers j h
            among h q is = cases (is_live k.answers j h) refl (is_among h (live_ids k.answers j)) refl
              where
                cases : (t : Bool) → is_live k.answers j h ≡ t → (u : Bool) → is_among h (live_ids k.answers j) ≡ u → u ≡ t
                cases true e true f = refl
                cases false e false f = refl
                cases true e false f = absurd (both_ways _ f (among_filter (is_live k.answers j) h k.answers.ids e (orderly.listed h ∙ ap is_some is)))
                cases false e true f = absurd (both_ways _ e (filtered (is_live k.answers j) h k.answers.ids f))

    pub stage : Builds (shown k n (all (before k.answers (kind_rank j)))) (group k j) (shown k n (all (before k.answers (suc (kind_rank j)))))
    stage =
        builds_to (flat_map blocks (live_ids k.answers j)) _ _ _ (ap (λ (f : ℕ → Bool). shown k n (all f)) (fun_ext next_before))
        (blocks_build (live_ids k.answers j) (before k.answers (kind_rank j)) (rising_filter (is_live k.answers j) k.answers.ids orderly.rising)
        (all_among (λ x. is_live k.answers j x ≡ true) (live_ids k.answers j) (λ x e. filtered (is_live k.answers j) x k.answers.ids e))
        (λ y b. b)
        (all_among (λ x. (y : ℕ) → goes k.answers x y ≡ true → before k.answers (kind_rank j) y ≡ false) (live_ids k.answers j) (λ x e y g.
        let q = live_object k.answers (goes_by x y) y g in
        let h = head_of y q.0 q.1 in
        let s : x ≡ h.head = eqb-true x h.head (sym (h.goes_with x) ∙ g) in
        let l : is_live k.answers j h.head ≡ true = ap (is_live k.answers j) (sym s) ∙ filtered (is_live k.answers j) x k.answers.ids e in
        let r : rank (q.0).detail ≡ kind_rank j = sym h.same_rank ∙ eqb-true _ _ (sym (kind_at h.head h.object h.is_live) ∙ l) in
        ap (passes (λ o. nat_lt (rank o.detail) (kind_rank j))) q.1 ∙ (let z : nat_lt (rank (q.0).detail) (kind_rank j) ≡ false = grind (arith, nat_tests, r) in z))))

  -- ---- the kinds in order

  abbrev pub AreInOrder : ℕ → List Kind → Type 0
  AreInOrder r [] = Unit {0}
  AreInOrder r (j ∷ js) = (kind_rank j ≡ r) × AreInOrder (suc r) js

  pub stages : (r : ℕ) (js : List Kind) → AreInOrder r js → Builds (shown k n (all (before k.answers r))) (flat_map (group k) js) (shown k n (all (before k.answers (r + length js))))
  stages r [] o = builds_none _ _ (ap (λ r. shown k n (all (before k.answers r))) (let e : r ≡ r + 0 = omega arith in e))
  stages r (j ∷ js) o =
      builds_append (group k j) (flat_map (group k) js) _ (shown k n (all (before k.answers (suc r)))) _
      (subst (λ r. Builds (shown k n (all (before k.answers r))) (group k j) (shown k n (all (before k.answers (suc r))))) o.0 (stage j))
      (builds_to (flat_map (group k) js) _ _ _ (ap (λ r. shown k n (all (before k.answers r))) (let e : suc r + length js ≡ r + length (j ∷ js) = omega arith in e)) (stages (suc r) js o.1))
