-- When the buffers of a pool are recorded, all that their commands name is as it was, and so are devices.
use Rattle.std.proofs.Common.{◌≡◌, ◌⊎◌, inl, inr, ℕ, zero, suc, Bool, true, false, ◌==◌, nat_lt, List, Option, Some, None, if◌then◌else◌, refl, sym, ap, ◌∙◌, arith, is_some}
use Rattle.std.specs.Option.{option_map_or}
use Rattle.std.proofs.lemmas.Bool.{both_ways}
use Rattle.gfx_model.specs.Steps.{Object, Detail}
use Rattle.gfx_model.specs.Steps.Detail.{an_instance, a_surface, a_device, a_queue, a_memory, a_buffer, an_image, a_pool, a_command_buffer, a_fence, a_semaphore, a_swapchain}
use Rattle.gfx_model.specs.Questions.{passes}
use Rattle.gfx_model.specs.Views.{View, is_usable, parent_of, device_of, climb, detail_window}
use Rattle.gfx_model.specs.Checks.{is_among}
use Rattle.gfx_model.specs.Section.{Known}
use Rattle.gfx_laws.specs.Lawful.{base}
use Rattle.gfx_laws.proofs.LastingChecks.{SameAt}
use Rattle.gfx_laws.proofs.Staying.{usable_along}
use Rattle.gfx_laws.proofs.LawfulLayouts.{usable_live}
use Rattle.gfx_section_law.specs.Orderly.{IsOrderly, IsMadeOf}
use Rattle.gfx_section_law.proofs.Picks.{pick-in}
use Rattle.gfx_section_law.proofs.Shown.{Cuts, shown_answers, bound_of}
use Rattle.gfx_section_law.proofs.Ranks.{rank, live_object, before, instance_before, device_before, memory_before}
use Rattle.gfx_section_law.proofs.Plain.{Starts}
use Rattle.gfx_section_law.proofs.Commands.{climb_step, climb_none}
use Rattle.gfx_section_law.proofs.PoolBuffers as buffers

module _ (k : Known) (n : ℕ) (orderly : IsOrderly k.answers) (done : ℕ → Bool) (x parent flags : ℕ)
    (is : k.answers.live x ≡ Some (record { parent = parent; detail = a_pool flags })) (starts : Starts k.answers x 10 done) where
  abbrev d : Detail
  d = buffers.d k n orderly done x parent flags is starts

  abbrev o : Object
  o = buffers.o k n orderly done x parent flags is starts

  abbrev parts : List ℕ
  parts = buffers.parts k n orderly done x parent flags is starts

  made_of : IsMadeOf k.answers parent (a_pool flags)
  made_of = buffers.made_of k n orderly done x parent flags is starts

  abbrev cb_object : Object
  cb_object = buffers.cb_object k n orderly done x parent flags is starts

  part_live : (i : ℕ) → is_among i parts ≡ true → k.answers.live i ≡ Some cb_object
  part_live = buffers.part_live k n orderly done x parent flags is starts

  abbrev everything : ℕ → Bool
  everything = buffers.everything k n orderly done x parent flags is starts

  abbrev having : (ℕ → Bool) → Cuts
  having = buffers.having k n orderly done x parent flags is starts

  agrees_done : (some : ℕ → Bool) (y : ℕ) → done y ≡ true → (shown_answers k n (having some)).live y ≡ k.answers.live y
  agrees_done = buffers.agrees_done k n orderly done x parent flags is starts

  agrees_x : (some : ℕ → Bool) → (shown_answers k n (having some)).live x ≡ k.answers.live x
  agrees_x = buffers.agrees_x k n orderly done x parent flags is starts

  agrees_part : (some : ℕ → Bool) (y : ℕ) → is_among y parts ≡ true → (shown_answers k n (having some)).live y ≡ k.answers.live y
  agrees_part = buffers.agrees_part k n orderly done x parent flags is starts

  -- a usable resource is before a pool
  window_rank : (d : Detail) (y : ℕ) → is_some (detail_window k.answers y d) ≡ true → nat_lt (rank d) 10 ≡ true
  window_rank (a_buffer size usage) y e = refl
  window_rank (an_image f w h u None) y e = refl
  window_rank (an_image f w h u (Some j)) y e = refl
  window_rank _ y e = absurd (cc)

  usable_before : (y : ℕ) → is_usable k.answers y ≡ true → before k.answers 10 y ≡ true
  usable_before y u = let l = usable_live k.answers y u in ap (passes (λ o. nat_lt (rank o.detail) 10)) l.1 ∙ window_rank (l.0).detail y l.2

  -- ---- devices

  no_zero : k.answers.live 0 ≡ None
  no_zero = by (k.answers.live 0) refl
    where
      by : (l : Option Object) → k.answers.live 0 ≡ l → l ≡ None
      by None e = refl
      by (Some q) e = absurd (both_ways (0 == 0) (orderly.nonzero 0 q e) refl)

  module _ (some : ℕ → Bool) where
    abbrev pub w : View
    w = shown_answers k n (having some)

    no_zero_now : w.live 0 ≡ None
    no_zero_now = by (everything 0) refl
      where
        by : (t : Bool) → everything 0 ≡ t → (if t then k.answers.live 0 else None) ≡ None
        by true e = no_zero
        by false e = refl

    -- an object that is before pools: its device is as it was
    parent_cases : (d : Detail) (p : ℕ) → nat_lt (rank d) 10 ≡ true → IsMadeOf k.answers p d → (before k.answers 10 p ≡ true) ⊎ (p ≡ 0)
    parent_cases (an_instance api) p r m = inr m
    parent_cases a_surface p r m = inl (instance_before k.answers 10 p m (omega arith))
    parent_cases a_device p r m = inl (instance_before k.answers 10 p m (omega arith))
    parent_cases a_queue p r m = inl (device_before k.answers 10 p m (omega arith))
    parent_cases (a_memory size) p r m = inl (device_before k.answers 10 p m.0 (omega arith))
    parent_cases (a_buffer size usage) p r m = inl (device_before k.answers 10 p m.0 (omega arith))
    parent_cases (an_image f w h u None) p r m = inl (device_before k.answers 10 p m.0 (omega arith))
    parent_cases (an_image f w h u (Some j)) p r m = inl (ap (passes (λ o. nat_lt (rank o.detail) 10)) m.is_live)
    parent_cases (a_pool flags) p r m = absurd (cc)
    parent_cases a_command_buffer p r m = absurd (cc)
    parent_cases a_fence p r m = inl (device_before k.answers 10 p m (omega arith))
    parent_cases a_semaphore p r m = inl (device_before k.answers 10 p m (omega arith))
    parent_cases (a_swapchain s i f w h u) p r m = inl (device_before k.answers 10 p m.0 (omega arith))

    climb_before : (m y : ℕ) → before k.answers 10 y ≡ true → climb m w y ≡ climb m k.answers y
    climb_before zero y e = refl
    climb_before (suc m) y e =
        climb_step k.answers w m y (agrees_done some y (starts.low y e))
        (λ not_device. up (λ p e. climb_before m p e))
      where
        up : ((p : ℕ) → before k.answers 10 p ≡ true → climb m w p ≡ climb m k.answers p) → climb m w (parent_of k.answers y) ≡ climb m k.answers (parent_of k.answers y)
        up again =
            let q = live_object k.answers (λ o. nat_lt (rank o.detail) 10) y e in
            let p : parent_of k.answers y ≡ (q.0).parent = ap (λ (l : Option Object). option_map_or (λ (o : Object). o.parent) l 0) q.1 in
            by (parent_cases (q.0).detail (q.0).parent q.2 (orderly.made y q.0 q.1)) p
          where
            by : {r : ℕ} → (before k.answers 10 r ≡ true) ⊎ (r ≡ 0) → parent_of k.answers y ≡ r → climb m w (parent_of k.answers y) ≡ climb m k.answers (parent_of k.answers y)
            by (inl b) p = again (parent_of k.answers y) (ap (before k.answers 10) p ∙ b)
            by (inr z) p = (λ i. climb m w ((p ∙ z) i)) ∙ climb_none w m no_zero_now ∙ sym (climb_none k.answers m no_zero) ∙ sym (λ i. climb m k.answers ((p ∙ z) i))

    pub same_at : (y : ℕ) → is_usable (base k.answers) y ≡ true → SameAt (base k.answers) w y
    same_at y u = usable_along (base k.answers) w y
        (λ u. agrees_done some y (starts.low y (usable_before y u)))
        (pick-in None (bound_of k.answers) done y (starts.low y (usable_before y u)) ∙ ap (λ t. if t then k.answers.bound y else None) u)
        (λ b e m. agrees_done some b.memory (starts.low b.memory (memory_before k.answers 10 b.memory m (omega arith))))
        (climb_before 3 y (usable_before y u))
        u

    pub cb_device : (cb : ℕ) → is_among cb parts ≡ true → device_of w cb ≡ device_of k.answers cb
    cb_device cb e =
        let at = part_live cb e in
        let p : parent_of k.answers cb ≡ x = ap (λ (l : Option Object). option_map_or (λ (o : Object). o.parent) l 0) at in
        let q : parent_of k.answers x ≡ parent = ap (λ (l : Option Object). option_map_or (λ (o : Object). o.parent) l 0) is in
        climb_step k.answers w 2 cb (agrees_part some cb e) (λ _.
        (λ i. climb 2 w (p i))
        ∙ climb_step k.answers w 1 x (agrees_x some) (λ _. (λ i. climb 1 w (q i)) ∙ climb_before 1 parent (device_before k.answers 10 parent made_of.0 (omega arith)) ∙ sym (λ i. climb 1 k.answers (q i)))
        ∙ sym (λ i. climb 2 k.answers (p i)))
