-- The checks of an event that creates no id ask for no new one.
use Rattle.std.proofs.Common.{ℕ, Bool, true, false, List, [], ◌∷◌, map, cond, rules, ◌==◌}
use Rattle.std.specs.List.{AllByRecursion}
use Rattle.gfx_types.specs.declared.names.Kind.{Kind}
use Rattle.gfx_types.specs.declared.names.Kind.TheVariants as kind
use Rattle.gfx_types.specs.declared.lists.Submit.{Submit}
use Rattle.gfx_model.specs.Events.{Event}
use Rattle.gfx_model.specs.Events.Event.{CreateInstance, CreateHeadlessSurfaceEXT, CreateDevice, GetDeviceQueue, AllocateMemory, CreateBuffer, CreateImage, CreateCommandPool, AllocateCommandBuffers, CreateFence, CreateSemaphore, CreateSwapchainKHR, GetSwapchainImagesKHR, MapMemory, FreeCommandBuffers, CmdPipelineBarrier, CmdFillBuffer, CmdCopyBuffer, CmdCopyImage, CmdCopyBufferToImage, CmdCopyImageToBuffer, ResetFences, WaitForFences, QueueSubmit, AcquireNextImageKHR, QueuePresentKHR, FillMemory, InitImage, SetSwapchainState, SetSemaphoreState, BeginSection, EndSection}
use Rattle.gfx_model.specs.Checks.{Check}
use Rattle.gfx_model.specs.Checks.Check.{outside, live, of, near, ends_in, unsignalled, tells_all, tells_some, index_in, not_acquired, all_acquired, is_acquired, presentable, fits, unmapped}
use Rattle.gfx_model.specs.Spelling.{id_of}
use Rattle.gfx_model.specs.Table.{row_of, place_of, stands_in_section, whole, live_once, barrier_value, res, buffer_region_in, image_region_in, mixed_region_value, mixed_region_in, submit_lengths, submit_near, near_each, to_signal, acquire_answer, value, is_positive, between}
use Rattle.gfx_model.proofs.Lists.{all_append, all_map, all_flat_map}
use Rattle.gfx_taken_law.proofs.OldChecks.{AsksForNone}

-- an event that creates no id
abbrev pub MakesNone : Event → Type 0
MakesNone (CreateInstance instance api) = ⊥
MakesNone (CreateHeadlessSurfaceEXT instance surface) = ⊥
MakesNone (CreateDevice instance device) = ⊥
MakesNone (GetDeviceQueue device queue) = ⊥
MakesNone (AllocateMemory device memory size) = ⊥
MakesNone (CreateBuffer device buffer size usage) = ⊥
MakesNone (CreateImage device image format width height usage) = ⊥
MakesNone (CreateCommandPool device pool flags) = ⊥
MakesNone (AllocateCommandBuffers device pool buffers) = ⊥
MakesNone (CreateFence device fence flags) = ⊥
MakesNone (CreateSemaphore device semaphore) = ⊥
MakesNone (CreateSwapchainKHR device swapchain surface images format width height usage) = ⊥
MakesNone (GetSwapchainImagesKHR device swapchain images) = ⊥
MakesNone _ = Unit {0}

abbrev R : List Check → Type 0
R cs = AllByRecursion AsksForNone cs

one_or_none : (t : Bool) (c : Check) → AsksForNone c → R (cond t [] (c ∷ []))
one_or_none true c p = tt
one_or_none false c p = (p, tt)

outside_or_none : (t : Bool) → R (cond t [] (outside ∷ []))
outside_or_none true = tt
outside_or_none false = (tt, tt)

pub none_in_place : (e : Event) → R (place_of e)
unfolding place_of
none_in_place (InitImage image layout bytes) = (tt, tt)
none_in_place (SetSwapchainState swapchain acquired) = (tt, tt)
none_in_place (SetSemaphoreState semaphore signalled) = (tt, tt)
none_in_place (FillMemory memory offset bytes) = tt
none_in_place (BeginSection frame) = tt
none_in_place (EndSection frame) = tt
none_in_place e = outside_or_none (stands_in_section (id_of e))

none_in_live_once : (k : Kind) (earlier xs : List ℕ) → R (live_once k earlier xs)
none_in_live_once k earlier [] = tt
none_in_live_once k earlier (x ∷ xs) = (tt, (tt, none_in_live_once k (x ∷ earlier) xs))

none_in_near_each : (k : Kind) (x : ℕ) (ys : List ℕ) → R (near_each k x ys)
none_in_near_each k x ys = all_append AsksForNone (map (live k) ys) (map (λ y. near y x) ys) (all_map AsksForNone (live k) (λ y. tt) ys) (all_map AsksForNone (λ y. near y x) (λ y. tt) ys)

none_in_submit_near : (queue : ℕ) (s : Submit) → R (submit_near queue s)
none_in_submit_near queue s = all_append AsksForNone _ _ (all_append AsksForNone _ _ (none_in_near_each kind.Semaphore queue s.waits) (none_in_near_each kind.CommandBuffer queue s.cbs)) (none_in_near_each kind.Semaphore queue s.signals)

none_in_signal : (k : Kind) (device x : ℕ) → R (to_signal k device x)
none_in_signal k device x = by (x == 0)
  where
    by : (t : Bool) → R (cond t [] (live k x ∷ of x device ∷ unsignalled x ∷ []))
    by true = tt
    by false = (tt, (tt, (tt, tt)))

none_in_answer : (swapchain index answer : ℕ) → R (acquire_answer swapchain index answer)
none_in_answer swapchain index answer = by (answer == 1)
  where
    by : (t : Bool) → R (cond t (value (index == 0) ∷ all_acquired swapchain ∷ []) (index_in swapchain index ∷ not_acquired swapchain index ∷ []))
    by true = (tt, (tt, tt))
    by false = (tt, (tt, tt))

none_in_wait : (t : Bool) (a b : Bool) (xs : List ℕ) → AsksForNone (cond t (tells_all a xs) (tells_some b xs))
none_in_wait true a b xs = tt
none_in_wait false a b xs = tt

none_in_fence : (t : Bool) (fence queue : ℕ) → R (cond t [] (live kind.Fence fence ∷ near fence queue ∷ []))
none_in_fence true fence queue = tt
none_in_fence false fence queue = (tt, (tt, tt))

pub none_in_row : (e : Event) → MakesNone e → R (row_of e)
unfolding row_of
none_in_row (CreateInstance instance api) p = absurd p
none_in_row (CreateHeadlessSurfaceEXT instance surface) p = absurd p
none_in_row (CreateDevice instance device) p = absurd p
none_in_row (GetDeviceQueue device queue) p = absurd p
none_in_row (AllocateMemory device memory size) p = absurd p
none_in_row (CreateBuffer device buffer size usage) p = absurd p
none_in_row (CreateImage device image format width height usage) p = absurd p
none_in_row (CreateCommandPool device pool flags) p = absurd p
none_in_row (AllocateCommandBuffers device pool buffers) p = absurd p
none_in_row (CreateFence device fence flags) p = absurd p
none_in_row (CreateSemaphore device semaphore) p = absurd p
none_in_row (CreateSwapchainKHR device swapchain surface images format width height usage) p = absurd p
none_in_row (GetSwapchainImagesKHR device swapchain images) p = absurd p
none_in_row (MapMemory device memory offset size) p = (tt, (tt, (tt, (tt, (tt, all_append AsksForNone _ (unmapped memory ∷ []) (one_or_none (size == whole) (ends_in memory _) tt) (tt, tt))))))
none_in_row (FreeCommandBuffers device pool buffers) p = (tt, (tt, (tt, (tt, (tt, all_append AsksForNone (live_once kind.CommandBuffer [] buffers) (map (λ cb. of cb pool) buffers) (none_in_live_once kind.CommandBuffer [] buffers) (all_map AsksForNone (λ cb. of cb pool) (λ x. tt) buffers))))))
none_in_row (CmdPipelineBarrier cb barriers) p =
    (tt, (tt, (tt, (tt, all_append AsksForNone _ (fits _ ∷ []) (all_append AsksForNone _ _ (all_flat_map AsksForNone (λ b. res kind.Image cb b.image) (λ b. (tt, (tt, (tt, tt)))) barriers) (all_map AsksForNone barrier_value (λ b. tt) barriers)) (tt, tt)))))
none_in_row (CmdFillBuffer cb buffer offset size word) p =
    (tt, (tt, (tt, (tt, (tt, (tt, (tt, (tt, all_append AsksForNone _ (fits _ ∷ []) (one_or_none (size == whole) (ends_in buffer _) tt) (tt, tt)))))))))
none_in_row (CmdCopyBuffer cb source target regions) p = (
  tt,
  (
    tt,
    (
      tt,
      (
        tt,
        (
          tt,
          (
            tt,
            (
              tt,
              (
                tt,
                (
                  tt,
                  (
                    tt,
                    (
                      tt,
                      (
                        tt,
                        all_append AsksForNone _ (fits _ ∷ []) (all_append AsksForNone _ _ (all_map AsksForNone (λ r. value (is_positive r.size)) (λ r. tt) regions) (all_flat_map AsksForNone (buffer_region_in source target) (λ r. (tt, (tt, tt))) regions)) (tt, tt),
                      ),
                    ),
                  ),
                ),
              ),
            ),
          ),
        ),
      ),
    ),
  ),
)
none_in_row (CmdCopyImage cb source source_layout target target_layout regions) p = (
  tt,
  (
    tt,
    (
      tt,
      (
        tt,
        (
          tt,
          (
            tt,
            (
              tt,
              (
                tt,
                (
                  tt,
                  (
                    tt,
                    (
                      tt,
                      (
                        tt,
                        (
                          tt,
                          (
                            tt,
                            all_append AsksForNone _ (fits _ ∷ []) (all_append AsksForNone _ _ (all_map AsksForNone _ (λ r. tt) regions) (all_flat_map AsksForNone (image_region_in source target) (λ r. (tt, (tt, tt))) regions)) (tt, tt),
                          ),
                        ),
                      ),
                    ),
                  ),
                ),
              ),
            ),
          ),
        ),
      ),
    ),
  ),
)
none_in_row (CmdCopyBufferToImage cb source target layout regions) p = (
  tt,
  (
    tt,
    (
      tt,
      (
        tt,
        (
          tt,
          (
            tt,
            (
              tt,
              (
                tt,
                (
                  tt,
                  (
                    tt,
                    (
                      tt,
                      (
                        tt,
                        (
                          tt,
                          all_append AsksForNone _ (fits _ ∷ []) (all_append AsksForNone _ _ (all_flat_map AsksForNone (mixed_region_value target) (λ r. (tt, (tt, tt))) regions) (all_flat_map AsksForNone (mixed_region_in source target) (λ r. (tt, (tt, tt))) regions)) (tt, tt),
                        ),
                      ),
                    ),
                  ),
                ),
              ),
            ),
          ),
        ),
      ),
    ),
  ),
)
none_in_row (CmdCopyImageToBuffer cb source layout target regions) p = (
  tt,
  (
    tt,
    (
      tt,
      (
        tt,
        (
          tt,
          (
            tt,
            (
              tt,
              (
                tt,
                (
                  tt,
                  (
                    tt,
                    (
                      tt,
                      (
                        tt,
                        (
                          tt,
                          all_append AsksForNone _ (fits _ ∷ []) (all_append AsksForNone _ _ (all_flat_map AsksForNone (mixed_region_value source) (λ r. (tt, (tt, tt))) regions) (all_flat_map AsksForNone (mixed_region_in target source) (λ r. (tt, (tt, tt))) regions)) (tt, tt),
                        ),
                      ),
                    ),
                  ),
                ),
              ),
            ),
          ),
        ),
      ),
    ),
  ),
)
none_in_row (ResetFences device fences) p = (tt, (tt, (tt, all_append AsksForNone _ _ (all_map AsksForNone (live kind.Fence) (λ x. tt) fences) (all_map AsksForNone (λ f. of f device) (λ x. tt) fences))))
none_in_row (WaitForFences device fences wait_all answer) p =
    (tt, (tt, (tt, all_append AsksForNone _ (value _ ∷ _ ∷ []) (all_append AsksForNone _ _ (all_map AsksForNone (live kind.Fence) (λ x. tt) fences) (all_map AsksForNone (λ f. of f device) (λ x. tt) fences)) (tt, (none_in_wait (wait_all == 1) (answer == 0) (answer == 0) fences, tt)))))
none_in_row (QueueSubmit queue submits fence) p = (
  tt,
  (
    tt,
    (
      tt,
      all_append AsksForNone _ (_ ∷ _ ∷ [])
          (all_append AsksForNone _ _ (all_append AsksForNone _ _ (all_flat_map AsksForNone submit_lengths (λ s. (tt, (tt, (tt, (tt, (tt, (tt, tt))))))) submits) (all_flat_map AsksForNone (submit_near queue) (none_in_submit_near queue) submits)) (none_in_fence (fence == 0) fence queue))
          (tt, (tt, tt)),
    ),
  ),
)
none_in_row (AcquireNextImageKHR device swapchain semaphore fence index answer) p = (
  tt,
  (
    tt,
    (
      tt,
      (
        tt,
        all_append AsksForNone _ (value _ ∷ acquire_answer swapchain index answer)
            (all_append AsksForNone _ _ (none_in_signal kind.Semaphore device semaphore) (none_in_signal kind.Fence device fence))
            (tt, none_in_answer swapchain index answer),
      ),
    ),
  ),
)
none_in_row (QueuePresentKHR queue waits presents) p = (
  tt,
  (
    tt,
    (
      tt,
      all_append AsksForNone _ (_ ∷ _ ∷ [])
          (all_append AsksForNone _ _ (all_append AsksForNone _ _
          (all_append AsksForNone _ (value _ ∷ _)
          (all_append AsksForNone _ _ (all_append AsksForNone _ (between 1 8 presents) (none_in_near_each kind.Semaphore queue waits) (tt, (tt, tt))) (none_in_near_each kind.Swapchain queue (map (λ p. p.swapchain) presents)))
          (tt, all_map AsksForNone (λ p. index_in p.swapchain p.index) (λ p. tt) presents))
          (all_map AsksForNone (λ p. is_acquired p.swapchain p.index) (λ p. tt) presents))
          (all_map AsksForNone (λ p. presentable p.swapchain p.index) (λ p. tt) presents))
          (tt, (tt, tt)),
    ),
  ),
)
none_in_row (SetSwapchainState swapchain acquired) p = (tt, (tt, all_map AsksForNone _ (λ a. tt) acquired))
none_in_row _ p = search rules
