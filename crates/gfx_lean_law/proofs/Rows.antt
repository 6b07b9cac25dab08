-- The checks of an event that names kept ids alone ask of these alone, and so do its steps.
use Rattle.std.proofs.Common.{◌≡◌, ℕ, Bool, true, false, List, [], ◌∷◌, ◌++◌, map, flat_map, cond, ◌==◌}
use Rattle.std.specs.List.{AllByRecursion}
use Rattle.gfx_types.specs.declared.names.Kind.{Kind}
use Rattle.gfx_types.specs.declared.names.Kind.TheVariants as kind
use Rattle.gfx_types.specs.declared.lists.Barrier.{Barrier}
use Rattle.gfx_types.specs.declared.lists.Present.{Present}
use Rattle.gfx_types.specs.declared.lists.Submit.{Submit}
use Rattle.gfx_model.specs.Events.{Event}
use Rattle.gfx_model.specs.Events.Event.{CreateInstance, MapMemory, AllocateCommandBuffers, FreeCommandBuffers, CmdPipelineBarrier, CmdFillBuffer, CmdUpdateBuffer, CmdCopyBuffer, CmdCopyImage, CmdCopyBufferToImage, CmdCopyImageToBuffer, ResetFences, WaitForFences, GetFenceStatus, QueueSubmit, AcquireNextImageKHR, QueuePresentKHR, FillMemory, InitImage, SetSwapchainState, SetSemaphoreState, BeginSection, EndSection}
use Rattle.gfx_model.specs.Spelling.{id_of}
use Rattle.gfx_script_model.specs.Ids.{uses_of, defines_of, atom_ids}
use Rattle.gfx_model.specs.Fields.{barrier_atoms, present_atoms}
use Rattle.gfx_model.specs.Checks.{Check, turns_of, turns_of_submit}
use Rattle.gfx_model.specs.Checks.Turn.{wait, execute, signal}
use Rattle.gfx_model.specs.Checks.Check.{outside, live, of, near, ends_in, unsignalled, tells_all, tells_some, index_in, not_acquired, all_acquired, is_acquired, presentable, room, fits, unmapped}
use Rattle.gfx_model.specs.Table.{row_of, place_of, checks_of, stands_in_section, whole, new_each, live_once, barrier_value, res, buffer_region_in, image_region_in, mixed_region_value, mixed_region_in, submit_lengths, submit_near, near_each, to_signal, acquire_answer, value, is_positive, between}
use Rattle.gfx_model.proofs.Lists.{all_append, all_map, all_flat_map, all_along}
use Rattle.gfx_laws.proofs.Lists.{all_before, all_behind, all_from_flat, all_into_flat, all_into_map}
use Rattle.gfx_lean_law.proofs.Only.{Keeps}
use Rattle.gfx_lean_law.proofs.Words.{KeepsCheck, KeepsTurn}

-- an event names and creates kept ids alone
abbrev pub KeepsEvent : (ℕ → Bool) → Event → Type 0
KeepsEvent k e = Keeps k (uses_of 2 e) × Keeps k (defines_of 2 e)

module _ (k : ℕ → Bool) where
  abbrev K : ℕ → Type 0
  K x = k x ≡ true

  abbrev P : Check → Type 0
  P c = KeepsCheck k c

  abbrev C : List Check → Type 0
  C cs = AllByRecursion P cs

  one_or_none : (t : Bool) (c : Check) → P c → C (cond t [] (c ∷ []))
  one_or_none true c p = tt
  one_or_none false c p = (p, tt)

  outside_or_none : (t : Bool) → C (cond t [] (outside ∷ []))
  outside_or_none true = tt
  outside_or_none false = (tt, tt)

  in_place : (e : Event) → C (place_of e)
  unfolding place_of
  in_place (InitImage image layout bytes) = (tt, tt)
  in_place (SetSwapchainState swapchain acquired) = (tt, tt)
  in_place (SetSemaphoreState semaphore signalled) = (tt, tt)
  in_place (FillMemory memory offset bytes) = tt
  in_place (BeginSection frame) = tt
  in_place (EndSection frame) = tt
  in_place e = outside_or_none (stands_in_section (id_of e))

  in_new_each : (earlier xs : List ℕ) → C (new_each earlier xs)
  in_new_each earlier [] = tt
  in_new_each earlier (x ∷ xs) = (tt, in_new_each (x ∷ earlier) xs)

  in_live_once : (j : Kind) (earlier xs : List ℕ) → Keeps k xs → C (live_once j earlier xs)
  in_live_once j earlier [] a = tt
  in_live_once j earlier (x ∷ xs) a = (a.0, (tt, in_live_once j (x ∷ earlier) xs a.1))

  in_map : (f : ℕ → Check) → ((x : ℕ) → K x → P (f x)) → (xs : List ℕ) → Keeps k xs → C (map f xs)
  in_map f each xs a = all_into_map P f xs (all_along K (λ x. P (f x)) each xs a)

  in_near_each : (j : Kind) (x : ℕ) (ys : List ℕ) → K x → Keeps k ys → C (near_each j x ys)
  in_near_each j x ys on a = all_append P (map (live j) ys) (map (λ y. near y x) ys) (in_map (live j) (λ y e. e) ys a) (in_map (λ y. near y x) (λ y e. (e, on)) ys a)

  -- the ids of a submit
  abbrev KeepsSubmit : Submit → Type 0
  KeepsSubmit s = Keeps k s.waits × Keeps k s.cbs × Keeps k s.signals

  one_submit : (s : Submit) → Keeps k (s.waits ++ s.cbs ++ s.signals) → KeepsSubmit s
  one_submit s a =
      let front = all_before K (s.waits ++ s.cbs) s.signals a in
      (all_before K s.waits s.cbs front, all_behind K s.waits s.cbs front, all_behind K (s.waits ++ s.cbs) s.signals a)

  pub all_submits : (ss : List Submit) → Keeps k (flat_map (λ s. s.waits ++ s.cbs ++ s.signals) ss) → AllByRecursion KeepsSubmit ss
  all_submits ss a = all_along (λ (s : Submit). Keeps k (s.waits ++ s.cbs ++ s.signals)) KeepsSubmit one_submit ss (all_from_flat K (λ (s : Submit). s.waits ++ s.cbs ++ s.signals) ss a)

  in_submit_near : (queue : ℕ) → K queue → (s : Submit) → KeepsSubmit s → C (submit_near queue s)
  in_submit_near queue on s a =
      all_append P _ _ (all_append P _ _ (in_near_each kind.Semaphore queue s.waits on a.0) (in_near_each kind.CommandBuffer queue s.cbs on a.1)) (in_near_each kind.Semaphore queue s.signals on a.2)

  in_turns : (s : Submit) → KeepsSubmit s → AllByRecursion (KeepsTurn k) (turns_of_submit s)
  in_turns s a =
      all_append (KeepsTurn k) _ _
      (all_append (KeepsTurn k) _ _ (all_into_map (KeepsTurn k) wait s.waits a.0) (all_into_map (KeepsTurn k) execute s.cbs a.1)) (all_into_map (KeepsTurn k) signal s.signals a.2)

  pub in_all_turns : (submits : List Submit) (fence : ℕ) → AllByRecursion KeepsSubmit submits → K fence → AllByRecursion (KeepsTurn k) (turns_of submits fence)
  in_all_turns submits fence a on =
      all_append (KeepsTurn k) (flat_map turns_of_submit submits) _
      (all_into_flat (KeepsTurn k) turns_of_submit submits (all_along KeepsSubmit (λ s. AllByRecursion (KeepsTurn k) (turns_of_submit s)) in_turns submits a)) (last (fence == 0))
    where
      last : (t : Bool) → AllByRecursion (KeepsTurn k) (cond t [] (signal fence ∷ []))
      last true = tt
      last false = (on, tt)

  in_signal : (j : Kind) (device x : ℕ) → K x → C (to_signal j device x)
  in_signal j device x on = by (x == 0)
    where
      by : (t : Bool) → C (cond t [] (live j x ∷ of x device ∷ unsignalled x ∷ []))
      by true = tt
      by false = (on, (on, (on, tt)))

  in_answer : (swapchain index answer : ℕ) → K swapchain → C (acquire_answer swapchain index answer)
  in_answer swapchain index answer on = by (answer == 1)
    where
      by : (t : Bool) → C (cond t (value (index == 0) ∷ all_acquired swapchain ∷ []) (index_in swapchain index ∷ not_acquired swapchain index ∷ []))
      by true = (tt, (on, tt))
      by false = (on, (on, tt))

  in_wait : (t : Bool) (a b : Bool) (xs : List ℕ) → Keeps k xs → P (cond t (tells_all a xs) (tells_some b xs))
  in_wait true a b xs p = p
  in_wait false a b xs p = p

  in_fence : (t : Bool) (fence queue : ℕ) → K fence → K queue → C (cond t [] (live kind.Fence fence ∷ near fence queue ∷ []))
  in_fence true fence queue f q = tt
  in_fence false fence queue f q = (f, ((f, q), tt))

  -- the images of barriers, and the swapchains of presents
  pub barrier_images : (bs : List Barrier) → Keeps k (flat_map (flat_map atom_ids) (map barrier_atoms bs)) → AllByRecursion (λ b. K b.image) bs
  barrier_images [] a = tt
  barrier_images (b ∷ bs) a = (a.0, barrier_images bs a.1)

  pub present_chains : (ps : List Present) → Keeps k (flat_map (flat_map atom_ids) (map present_atoms ps)) → AllByRecursion (λ p. K p.swapchain) ps
  present_chains [] a = tt
  present_chains (p ∷ ps) a = (a.0, present_chains ps a.1)

  in_presents : (f : Present → Check) → ((p : Present) → K p.swapchain → P (f p)) → (ps : List Present) → AllByRecursion (λ p. K p.swapchain) ps → C (map f ps)
  in_presents f each ps a = all_into_map P f ps (all_along (λ (p : Present). K p.swapchain) (λ p. P (f p)) each ps a)

  row_keeps : (e : Event) → Keeps k (uses_of 2 e) → Keeps k (defines_of 2 e) → C (row_of e)
  unfolding row_of uses_of defines_of
  row_keeps (MapMemory device memory offset size) a b =
      let m = a.1.0 in (a.0, (m, (m, (tt, (m, all_append P _ (unmapped memory ∷ []) (one_or_none (size == whole) (ends_in memory _) m) (m, tt))))))
  row_keeps (AllocateCommandBuffers device pool buffers) a b =
      let p = a.1.0 in (a.0, (p, (p, (tt, (tt, all_append P (new_each [] buffers) (room _ ∷ []) (in_new_each [] buffers) (tt, tt))))))
  row_keeps (FreeCommandBuffers device pool buffers) a b =
      let p = a.1.0 in let cbs = all_before K buffers [] a.1.1 in
      (a.0, (p, (p, (tt, (tt, all_append P (live_once kind.CommandBuffer [] buffers) (map (λ cb. of cb pool) buffers) (in_live_once kind.CommandBuffer [] buffers cbs) (in_map (λ cb. of cb pool) (λ x e. e) buffers cbs))))))
  row_keeps (CmdPipelineBarrier cb barriers) a b =
      let c = a.0 in let images = barrier_images barriers (all_before K _ [] a.1) in (
        c,
        (
          c,
          (
            tt,
            (
              tt,
              all_append P _ (fits _ ∷ [])
                  (all_append P _ _
                  (all_into_flat P (λ b. res kind.Image cb b.image) barriers (all_along (λ (b : Barrier). K b.image) (λ b. C (res kind.Image cb b.image)) (λ b e. (e, ((e, c), (e, tt)))) barriers images))
                  (all_map P barrier_value (λ b. tt) barriers))
                  (tt, tt),
            ),
          ),
        ),
      )
  row_keeps (CmdFillBuffer cb buffer offset size word) a b =
      let c = a.0 in let x = a.1.0 in
      (c, (c, (x, ((x, c), (x, (x, (tt, (x, all_append P _ (fits _ ∷ []) (one_or_none (size == whole) (ends_in buffer _) x) (tt, tt)))))))))
  row_keeps (CmdUpdateBuffer cb buffer offset bytes) a b = let c = a.0 in let x = a.1.0 in (c, (c, (x, ((x, c), (x, (x, (tt, (x, (tt, tt)))))))))
  row_keeps (CmdCopyBuffer cb source target regions) a b =
      let c = a.0 in let s = a.1.0 in let t = a.1.1.0 in (
        c,
        (
          c,
          (
            s,
            (
              (s, c),
              (
                s,
                (
                  t,
                  (
                    (t, c),
                    (
                      t,
                      (
                        s,
                        (
                          t,
                          (
                            tt,
                            (
                              tt,
                              all_append P _ (fits _ ∷ []) (all_append P _ _ (all_map P (λ r. value (is_positive r.size)) (λ r. tt) regions) (all_flat_map P (buffer_region_in source target) (λ r. (s, (t, tt))) regions)) (tt, tt),
                            ),
                          ),
                        ),
                      ),
                    ),
                  ),
                ),
              ),
            ),
          ),
        ),
      )
  row_keeps (CmdCopyImage cb source source_layout target target_layout regions) a b =
      let c = a.0 in let s = a.1.0 in let t = a.1.1.0 in (
        c,
        (
          c,
          (
            s,
            (
              (s, c),
              (
                s,
                (
                  t,
                  (
                    (t, c),
                    (
                      t,
                      (
                        s,
                        (
                          t,
                          (
                            tt,
                            (
                              (s, t),
                              (
                                tt,
                                (
                                  tt,
                                  all_append P _ (fits _ ∷ []) (all_append P _ _ (all_map P _ (λ r. tt) regions) (all_flat_map P (image_region_in source target) (λ r. (s, (t, tt))) regions)) (tt, tt),
                                ),
                              ),
                            ),
                          ),
                        ),
                      ),
                    ),
                  ),
                ),
              ),
            ),
          ),
        ),
      )
  row_keeps (CmdCopyBufferToImage cb source target layout regions) a b =
      let c = a.0 in let s = a.1.0 in let t = a.1.1.0 in (
        c,
        (
          c,
          (
            s,
            (
              (s, c),
              (
                s,
                (
                  t,
                  (
                    (t, c),
                    (
                      t,
                      (
                        s,
                        (
                          t,
                          (
                            tt,
                            (
                              tt,
                              (
                                tt,
                                all_append P _ (fits _ ∷ []) (all_append P _ _ (all_flat_map P (mixed_region_value target) (λ r. (tt, (t, tt))) regions) (all_flat_map P (mixed_region_in source target) (λ r. (t, ((s, t), tt))) regions)) (tt, tt),
                              ),
                            ),
                          ),
                        ),
                      ),
                    ),
                  ),
                ),
              ),
            ),
          ),
        ),
      )
  row_keeps (CmdCopyImageToBuffer cb source layout target regions) a b =
      let c = a.0 in let s = a.1.0 in let t = a.1.1.0 in (
        c,
        (
          c,
          (
            s,
            (
              (s, c),
              (
                s,
                (
                  t,
                  (
                    (t, c),
                    (
                      t,
                      (
                        s,
                        (
                          t,
                          (
                            tt,
                            (
                              tt,
                              (
                                tt,
                                all_append P _ (fits _ ∷ []) (all_append P _ _ (all_flat_map P (mixed_region_value source) (λ r. (tt, (s, tt))) regions) (all_flat_map P (mixed_region_in target source) (λ r. (s, ((t, s), tt))) regions)) (tt, tt),
                              ),
                            ),
                          ),
                        ),
                      ),
                    ),
                  ),
                ),
              ),
            ),
          ),
        ),
      )
  row_keeps (ResetFences device fences) a b =
      let f = all_before K fences [] a.1 in
      (a.0, (tt, (tt, all_append P _ _ (in_map (live kind.Fence) (λ x e. e) fences f) (in_map (λ f. of f device) (λ x e. e) fences f))))
  row_keeps (WaitForFences device fences wait_all answer) a b =
      let f = all_before K fences [] a.1 in
      (a.0, (tt, (tt, all_append P _ (value _ ∷ _ ∷ []) (all_append P _ _ (in_map (live kind.Fence) (λ x e. e) fences f) (in_map (λ f. of f device) (λ x e. e) fences f)) (tt, (in_wait (wait_all == 1) (answer == 0) (answer == 0) fences f, tt)))))
  row_keeps (GetFenceStatus device fence answer) a b = let f = a.1.0 in (a.0, (f, (f, (tt, ((f, tt), tt)))))
  row_keeps (QueueSubmit queue submits fence) a b =
      let q = a.0 in
      let each = all_submits submits (all_before K _ (fence ∷ []) a.1) in
      let f = (all_behind K (flat_map (λ (s : Submit). s.waits ++ s.cbs ++ s.signals) submits) (fence ∷ []) a.1).0 in (
        q,
        (
          tt,
          (
            tt,
            all_append P _ (_ ∷ _ ∷ [])
                (all_append P _ _ (all_append P _ _ (all_flat_map P submit_lengths (λ s. (tt, (tt, (tt, (tt, (tt, (tt, tt))))))) submits)
                (all_into_flat P (submit_near queue) submits (all_along KeepsSubmit (λ s. C (submit_near queue s)) (in_submit_near queue q) submits each))) (in_fence (fence == 0) fence queue f q))
                (tt, (in_all_turns submits fence each f, tt)),
          ),
        ),
      )
  row_keeps (AcquireNextImageKHR device swapchain semaphore fence index answer) a b =
      let d = a.0 in let s = a.1.0 in (
        d,
        (
          s,
          (
            s,
            (
              tt,
              all_append P _ (value _ ∷ acquire_answer swapchain index answer)
                  (all_append P _ _ (in_signal kind.Semaphore device semaphore a.1.1.0) (in_signal kind.Fence device fence a.1.1.1.0))
                  (tt, in_answer swapchain index answer s),
            ),
          ),
        ),
      )
  row_keeps (QueuePresentKHR queue waits presents) a b =
      let q = a.0 in
      let w = all_before K waits _ a.1 in
      let ps = present_chains presents (all_before K _ [] (all_behind K waits (flat_map (flat_map atom_ids) (map present_atoms presents) ++ []) a.1)) in
      let chains : Keeps k (map (λ (p : Present). p.swapchain) presents) = all_into_map K (λ (p : Present). p.swapchain) presents ps in (
        q,
        (
          tt,
          (
            tt,
            all_append P _ (_ ∷ _ ∷ [])
                (all_append P _ _ (all_append P _ _
                (all_append P _ (value _ ∷ _)
                (all_append P _ _ (all_append P _ (between 1 8 presents) (in_near_each kind.Semaphore queue waits q w) (tt, (tt, tt))) (in_near_each kind.Swapchain queue (map (λ p. p.swapchain) presents) q chains))
                (tt, in_presents (λ p. index_in p.swapchain p.index) (λ p e. e) presents ps))
                (in_presents (λ p. is_acquired p.swapchain p.index) (λ p e. e) presents ps))
                (in_presents (λ p. presentable p.swapchain p.index) (λ p e. e) presents ps))
                (all_into_map (KeepsTurn k) wait waits w, (tt, tt)),
          ),
        ),
      )
  row_keeps (SetSwapchainState swapchain acquired) a b = (a.0, (a.0, all_map P _ (λ a. tt) acquired))
  row_keeps (CreateInstance instance api) a b = (tt, (tt, tt))
  row_keeps _ a b = assumption (a, b)

  pub checks_keep : (e : Event) → KeepsEvent k e → C (checks_of e)
  checks_keep e p = all_append P (place_of e) (row_of e) (in_place e) (row_keeps e p.0 p.1)
