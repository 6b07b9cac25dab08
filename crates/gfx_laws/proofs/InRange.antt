-- No check but that of a begin marker asks for the start.
use Rattle.std.proofs.Common.{ℕ, Bool, true, false, List, [], ◌∷◌, map, cond, rules, ◌==◌}
use Rattle.std.specs.List.{AllByRecursion}
use Rattle.gfx_types.specs.declared.names.Kind.{Kind}
use Rattle.gfx_types.specs.declared.names.Kind.TheVariants as kind
use Rattle.gfx_types.specs.declared.lists.Submit.{Submit}
use Rattle.gfx_model.specs.Events.{Event}
use Rattle.gfx_model.specs.Events.Event.{MapMemory, AllocateCommandBuffers, FreeCommandBuffers, CmdPipelineBarrier, CmdFillBuffer, CmdCopyBuffer, CmdCopyImage, CmdCopyBufferToImage, CmdCopyImageToBuffer, ResetFences, WaitForFences, QueueSubmit, AcquireNextImageKHR, QueuePresentKHR, FillMemory, InitImage, SetSwapchainState, SetSemaphoreState, BeginSection, EndSection}
use Rattle.gfx_model.specs.Checks.{Check}
use Rattle.gfx_model.specs.Checks.Check.{outside, live, of, near, ends_in, unsignalled, tells_all, tells_some, index_in, not_acquired, all_acquired, is_acquired, presentable, room, fits, unmapped}
use Rattle.gfx_model.specs.Spelling.{id_of}
use Rattle.gfx_model.specs.Table.{row_of, place_of, checks_of, stands_in_section, whole, new_each, live_once, barrier_value, res, buffer_region_in, image_region_in, mixed_region_value, mixed_region_in, submit_lengths, submit_near, near_each, to_signal, acquire_answer, value, is_positive, between}
use Rattle.gfx_model.specs.Covers.{IsInRange}
use Rattle.gfx_model.proofs.Lists.{all_append, all_map, all_flat_map}

-- an event that is no begin marker
abbrev pub IsNoBegin : Event → Type 0
IsNoBegin (BeginSection frame) = ⊥
IsNoBegin _ = Unit {0}

abbrev R : List Check → Type 0
R cs = AllByRecursion IsInRange cs

one_or_none : (t : Bool) (c : Check) → IsInRange c → R (cond t [] (c ∷ []))
one_or_none true c p = tt
one_or_none false c p = (p, tt)

outside_or_none : (t : Bool) → R (cond t [] (outside ∷ []))
outside_or_none true = tt
outside_or_none false = (tt, tt)

in_place : (e : Event) → R (place_of e)
unfolding place_of
in_place (InitImage image layout bytes) = (tt, tt)
in_place (SetSwapchainState swapchain acquired) = (tt, tt)
in_place (SetSemaphoreState semaphore signalled) = (tt, tt)
in_place (FillMemory memory offset bytes) = tt
in_place (BeginSection frame) = tt
in_place (EndSection frame) = tt
in_place e = outside_or_none (stands_in_section (id_of e))

in_new_each : (earlier xs : List ℕ) → R (new_each earlier xs)
in_new_each earlier [] = tt
in_new_each earlier (x ∷ xs) = (tt, in_new_each (x ∷ earlier) xs)

in_live_once : (k : Kind) (earlier xs : List ℕ) → R (live_once k earlier xs)
in_live_once k earlier [] = tt
in_live_once k earlier (x ∷ xs) = (tt, (tt, in_live_once k (x ∷ earlier) xs))

in_near_each : (k : Kind) (x : ℕ) (ys : List ℕ) → R (near_each k x ys)
in_near_each k x ys = all_append IsInRange (map (live k) ys) (map (λ y. near y x) ys) (all_map IsInRange (live k) (λ y. tt) ys) (all_map IsInRange (λ y. near y x) (λ y. tt) ys)

in_submit_near : (queue : ℕ) (s : Submit) → R (submit_near queue s)
in_submit_near queue s = all_append IsInRange _ _ (all_append IsInRange _ _ (in_near_each kind.Semaphore queue s.waits) (in_near_each kind.CommandBuffer queue s.cbs)) (in_near_each kind.Semaphore queue s.signals)

in_signal : (k : Kind) (device x : ℕ) → R (to_signal k device x)
in_signal k device x = by (x == 0)
  where
    by : (t : Bool) → R (cond t [] (live k x ∷ of x device ∷ unsignalled x ∷ []))
    by true = tt
    by false = (tt, (tt, (tt, tt)))

in_answer : (swapchain index answer : ℕ) → R (acquire_answer swapchain index answer)
in_answer swapchain index answer = by (answer == 1)
  where
    by : (t : Bool) → R (cond t (value (index == 0) ∷ all_acquired swapchain ∷ []) (index_in swapchain index ∷ not_acquired swapchain index ∷ []))
    by true = (tt, (tt, tt))
    by false = (tt, (tt, tt))

in_wait : (t : Bool) (a b : Bool) (xs : List ℕ) → IsInRange (cond t (tells_all a xs) (tells_some b xs))
in_wait true a b xs = tt
in_wait false a b xs = tt

in_fence : (t : Bool) (fence queue : ℕ) → R (cond t [] (live kind.Fence fence ∷ near fence queue ∷ []))
in_fence true fence queue = tt
in_fence false fence queue = (tt, (tt, tt))

in_row : (e : Event) → IsNoBegin e → R (row_of e)
unfolding row_of
in_row (BeginSection frame) p = absurd p
in_row (MapMemory device memory offset size) p = (tt, (tt, (tt, (tt, (tt, all_append IsInRange _ (unmapped memory ∷ []) (one_or_none (size == whole) (ends_in memory _) tt) (tt, tt))))))
in_row (AllocateCommandBuffers device pool buffers) p = (tt, (tt, (tt, (tt, (tt, all_append IsInRange (new_each [] buffers) (room _ ∷ []) (in_new_each [] buffers) (tt, tt))))))
in_row (FreeCommandBuffers device pool buffers) p = (tt, (tt, (tt, (tt, (tt, all_append IsInRange (live_once kind.CommandBuffer [] buffers) (map (λ cb. of cb pool) buffers) (in_live_once kind.CommandBuffer [] buffers) (all_map IsInRange (λ cb. of cb pool) (λ x. tt) buffers))))))
in_row (CmdPipelineBarrier cb barriers) p =
    (tt, (tt, (tt, (tt, all_append IsInRange _ (fits _ ∷ []) (all_append IsInRange _ _ (all_flat_map IsInRange (λ b. res kind.Image cb b.image) (λ b. (tt, (tt, (tt, tt)))) barriers) (all_map IsInRange barrier_value (λ b. tt) barriers)) (tt, tt)))))
in_row (CmdFillBuffer cb buffer offset size word) p =
    (tt, (tt, (tt, (tt, (tt, (tt, (tt, (tt, all_append IsInRange _ (fits _ ∷ []) (one_or_none (size == whole) (ends_in buffer _) tt) (tt, tt)))))))))
in_row (CmdCopyBuffer cb source target regions) p = (
  tt,
  (
    tt,
    (
      tt,
      (
        tt,
        (
          tt,
          (
            tt,
            (
              tt,
              (
                tt,
                (
                  tt,
                  (
                    tt,
                    (
                      tt,
                      (
                        tt,
                        all_append IsInRange _ (fits _ ∷ []) (all_append IsInRange _ _ (all_map IsInRange (λ r. value (is_positive r.size)) (λ r. tt) regions) (all_flat_map IsInRange (buffer_region_in source target) (λ r. (tt, (tt, tt))) regions)) (tt, tt),
                      ),
                    ),
                  ),
                ),
              ),
            ),
          ),
        ),
      ),
    ),
  ),
)
in_row (CmdCopyImage cb source source_layout target target_layout regions) p = (
  tt,
  (
    tt,
    (
      tt,
      (
        tt,
        (
          tt,
          (
            tt,
            (
              tt,
              (
                tt,
                (
                  tt,
                  (
                    tt,
                    (
                      tt,
                      (
                        tt,
                        (
                          tt,
                          (
                            tt,
                            all_append IsInRange _ (fits _ ∷ []) (all_append IsInRange _ _ (all_map IsInRange _ (λ r. tt) regions) (all_flat_map IsInRange (image_region_in source target) (λ r. (tt, (tt, tt))) regions)) (tt, tt),
                          ),
                        ),
                      ),
                    ),
                  ),
                ),
              ),
            ),
          ),
        ),
      ),
    ),
  ),
)
in_row (CmdCopyBufferToImage cb source target layout regions) p = (
  tt,
  (
    tt,
    (
      tt,
      (
        tt,
        (
          tt,
          (
            tt,
            (
              tt,
              (
                tt,
                (
                  tt,
                  (
                    tt,
                    (
                      tt,
                      (
                        tt,
                        (
                          tt,
                          all_append IsInRange _ (fits _ ∷ []) (all_append IsInRange _ _ (all_flat_map IsInRange (mixed_region_value target) (λ r. (tt, (tt, tt))) regions) (all_flat_map IsInRange (mixed_region_in source target) (λ r. (tt, (tt, tt))) regions)) (tt, tt),
                        ),
                      ),
                    ),
                  ),
                ),
              ),
            ),
          ),
        ),
      ),
    ),
  ),
)
in_row (CmdCopyImageToBuffer cb source layout target regions) p = (
  tt,
  (
    tt,
    (
      tt,
      (
        tt,
        (
          tt,
          (
            tt,
            (
              tt,
              (
                tt,
                (
                  tt,
                  (
                    tt,
                    (
                      tt,
                      (
                        tt,
                        (
                          tt,
                          all_append IsInRange _ (fits _ ∷ []) (all_append IsInRange _ _ (all_flat_map IsInRange (mixed_region_value source) (λ r. (tt, (tt, tt))) regions) (all_flat_map IsInRange (mixed_region_in target source) (λ r. (tt, (tt, tt))) regions)) (tt, tt),
                        ),
                      ),
                    ),
                  ),
                ),
              ),
            ),
          ),
        ),
      ),
    ),
  ),
)
in_row (ResetFences device fences) p = (tt, (tt, (tt, all_append IsInRange _ _ (all_map IsInRange (live kind.Fence) (λ x. tt) fences) (all_map IsInRange (λ f. of f device) (λ x. tt) fences))))
in_row (WaitForFences device fences wait_all answer) p =
    (tt, (tt, (tt, all_append IsInRange _ (value _ ∷ _ ∷ []) (all_append IsInRange _ _ (all_map IsInRange (live kind.Fence) (λ x. tt) fences) (all_map IsInRange (λ f. of f device) (λ x. tt) fences)) (tt, (in_wait (wait_all == 1) (answer == 0) (answer == 0) fences, tt)))))
in_row (QueueSubmit queue submits fence) p = (
  tt,
  (
    tt,
    (
      tt,
      all_append IsInRange _ (_ ∷ _ ∷ [])
          (all_append IsInRange _ _ (all_append IsInRange _ _ (all_flat_map IsInRange submit_lengths (λ s. (tt, (tt, (tt, (tt, (tt, (tt, tt))))))) submits) (all_flat_map IsInRange (submit_near queue) (in_submit_near queue) submits)) (in_fence (fence == 0) fence queue))
          (tt, (tt, tt)),
    ),
  ),
)
in_row (AcquireNextImageKHR device swapchain semaphore fence index answer) p = (
  tt,
  (
    tt,
    (
      tt,
      (
        tt,
        all_append IsInRange _ (value _ ∷ acquire_answer swapchain index answer)
            (all_append IsInRange _ _ (in_signal kind.Semaphore device semaphore) (in_signal kind.Fence device fence))
            (tt, in_answer swapchain index answer),
      ),
    ),
  ),
)
in_row (QueuePresentKHR queue waits presents) p = (
  tt,
  (
    tt,
    (
      tt,
      all_append IsInRange _ (_ ∷ _ ∷ [])
          (all_append IsInRange _ _ (all_append IsInRange _ _
          (all_append IsInRange _ (value _ ∷ _)
          (all_append IsInRange _ _ (all_append IsInRange _ (between 1 8 presents) (in_near_each kind.Semaphore queue waits) (tt, (tt, tt))) (in_near_each kind.Swapchain queue (map (λ p. p.swapchain) presents)))
          (tt, all_map IsInRange (λ p. index_in p.swapchain p.index) (λ p. tt) presents))
          (all_map IsInRange (λ p. is_acquired p.swapchain p.index) (λ p. tt) presents))
          (all_map IsInRange (λ p. presentable p.swapchain p.index) (λ p. tt) presents))
          (tt, (tt, tt)),
    ),
  ),
)
in_row (SetSwapchainState swapchain acquired) p = (tt, (tt, all_map IsInRange _ (λ a. tt) acquired))
in_row _ p = search rules

pub in_range : (e : Event) → IsNoBegin e → R (checks_of e)
in_range e p = all_append IsInRange (place_of e) (row_of e) (in_place e) (in_row e p)
