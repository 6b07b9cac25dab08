-- Examples of faults.
use Rattle.gfx_model.proofs.ExampleCaptures.{after, all, both, f1, wholes, z2}
use Rattle.gfx_model.specs.Blocks.End.{bad, clean}
use Rattle.gfx_model.specs.Events.Event.{AcquireNextImageKHR, AllocateMemory, BeginCommandBuffer, BeginSection, BindBufferMemory, CmdCopyBufferToImage, CmdFillBuffer, CmdPipelineBarrier, CreateHeadlessSurfaceEXT, CreateInstance, DestroyInstance, EndCommandBuffer, EndSection, FillMemory, GetDeviceQueue, MapMemory, QueuePresentKHR, QueueSubmit, ResetFences, SetSemaphoreState, UnmapMemory}
use Rattle.gfx_model.specs.History.{fault, is_valid, onto}
use Rattle.gfx_model.specs.Meaning.{judge}
use Rattle.gfx_types.specs.declared.names.Fault.TheVariants.{AlreadyBound, BadValue, CommandState, IdTaken, LayoutDiffers, LimitReached, MapState, NotLive, OutOfRange, ResultDiffers, SignalState, StateOrder, SwapState, UsageMissing}
use Rattle.std.specs.Prelude.{None, Some, [], drop, refl, take, true, ◌++◌, ◌∷◌, ◌≡◌}

ex_valid : is_valid (after 22) ≡ true
unfolding all
ex_valid = refl

-- a region that is wider than the image
ex_wide : fault (after 16) (CmdCopyBufferToImage 11 9 6 7 (record { offset = 0; row = 0; rows = 0; x = 0; y = 0; width = 4; height = 1 } ∷ [])) ≡ Some OutOfRange
unfolding all
ex_wide = refl

-- an offset near 2 ^ 64 does not wrap
ex_far : fault (after 16) (CmdCopyBufferToImage 11 9 6 7 (record { offset = 18446744073709551615; row = 0; rows = 0; x = 0; y = 0; width = 3; height = 1 } ∷ [])) ≡ Some OutOfRange
unfolding all
ex_far = refl

ex_map_far : fault (after 8) (MapMemory 3 8 1 18446744073709551614) ≡ Some OutOfRange
unfolding all
ex_map_far = refl

-- a second query of the queue under another id, and under its own
ex_queue : fault (after 4) (GetDeviceQueue 3 12) ≡ Some ResultDiffers
unfolding all
ex_queue = refl

ex_same_queue : fault (after 4) (GetDeviceQueue 3 4) ≡ None
unfolding all
ex_same_queue = refl

-- metadata of the section outside it
ex_outside : fault (after 22) (SetSemaphoreState 7 1) ≡ Some StateOrder
unfolding all
ex_outside = refl

ex_second_end : fault (after 19) (EndCommandBuffer 11) ≡ Some CommandState
unfolding all
ex_second_end = refl

ex_no_fence : fault (after 22) (ResetFences 3 []) ≡ Some BadValue
unfolding all
ex_no_fence = refl

-- a fill of memory that is not mapped
ex_unmapped : fault (UnmapMemory 3 8 ∷ after 9) (FillMemory 8 0 (97 ∷ [])) ≡ Some MapState
unfolding all
ex_unmapped = refl

-- the image was never taken to PRESENT_SRC_KHR
ex_layout : fault (onto (CmdPipelineBarrier 11 [] ∷ EndCommandBuffer 11 ∷ AcquireNextImageKHR 3 5 0 7 0 0 ∷ QueueSubmit 4 (record { waits = []; cbs = 11 ∷ []; signals = [] } ∷ []) 0 ∷ []) (after 15)) (QueuePresentKHR 4 [] (record { swapchain = 5; index = 0 } ∷ [])) ≡ Some LayoutDiffers
unfolding all
ex_layout = refl

-- the second submit of one buffer meets the layout that the first one left
ex_twice : fault (after 22) (QueueSubmit 4 (record { waits = []; cbs = 11 ∷ 11 ∷ []; signals = [] } ∷ []) 0) ≡ Some CommandState
unfolding all
ex_twice = refl

ex_ended : fault (DestroyInstance 1 ∷ CreateInstance 1 1 ∷ []) (CreateHeadlessSurfaceEXT 1 2) ≡ Some NotLive
unfolding all
ex_ended = refl

ex_used : fault (DestroyInstance 1 ∷ CreateInstance 1 1 ∷ []) (CreateInstance 1 1) ≡ Some IdTaken
unfolding all
ex_used = refl

-- a buffer that may be submitted once
ex_once : fault (onto (QueueSubmit 4 (record { waits = []; cbs = 11 ∷ []; signals = [] } ∷ []) 0 ∷ []) (onto (drop 15 (take 19 f1)) (BeginCommandBuffer 11 1 ∷ after 14))) (QueueSubmit 4 (record { waits = []; cbs = 11 ∷ []; signals = [] } ∷ []) 0) ≡ Some CommandState
unfolding all
ex_once = refl

ex_z2_twice : fault (onto (take 19 (z2 both)) []) (QueuePresentKHR 4 [] (record { swapchain = 5; index = 0 } ∷ record { swapchain = 5; index = 0 } ∷ [])) ≡ Some BadValue
unfolding all
ex_z2_twice = refl

ex_z2_none : fault (onto (take 19 (z2 both)) []) (QueuePresentKHR 4 [] []) ≡ Some BadValue
unfolding all
ex_z2_none = refl

-- the lines of a bad block: a second queue, a range that ends past 2 ^ 64, an offset near it
ex_queue_line : (judge [] (wholes 1 1 16 (take 4 f1 ++ GetDeviceQueue 3 12 ∷ drop 4 f1)) clean).end ≡ bad ResultDiffers 5 172
unfolding all
ex_queue_line = refl

ex_map_line : (judge [] (wholes 1 1 16 (take 8 f1 ++ MapMemory 3 8 1 18446744073709551614 ∷ drop 9 f1)) clean).end ≡ bad OutOfRange 9 384
unfolding all
ex_map_line = refl

ex_far_line : (judge [] (wholes 1 1 16 (take 16 f1 ++ CmdCopyBufferToImage 11 9 6 7 (record { offset = 18446744073709551615; row = 0; rows = 0; x = 0; y = 0; width = 3; height = 1 } ∷ []) ∷ drop 17 f1)) clean).end ≡ bad OutOfRange 17 783
unfolding all
ex_far_line = refl

ex_end_line : (judge [] (wholes 1 1 16 (take 19 f1 ++ EndCommandBuffer 11 ∷ drop 19 f1)) clean).end ≡ bad CommandState 20 955
unfolding all
ex_end_line = refl

-- one swapchain twice in a present
ex_twice_line : (judge [] (wholes 2 1 16 (z2 (record { swapchain = 5; index = 0 } ∷ record { swapchain = 5; index = 0 } ∷ []))) clean).end ≡ bad BadValue 20 964
unfolding all
ex_twice_line = refl

-- a missing usage comes before a range, and a value before a range
ex_usage_first : fault (after 16) (CmdFillBuffer 11 9 99 4 0) ≡ Some UsageMissing
unfolding all
ex_usage_first = refl

ex_value_first : fault (after 8) (MapMemory 3 8 64 0) ≡ Some BadValue
unfolding all
ex_value_first = refl

-- an id is asked for 0 before it is asked for use, and both before a value
ex_zero_id : fault (after 7) (AllocateMemory 3 0 0) ≡ Some BadValue
unfolding all
ex_zero_id = refl

ex_taken_id : fault (after 7) (AllocateMemory 3 7 0) ≡ Some IdTaken
unfolding all
ex_taken_id = refl

-- memory and images of swapchains share 2 ^ 28 bytes, and the image has three
ex_memory_fits : fault (after 7) (AllocateMemory 3 8 268435453) ≡ None
unfolding all
ex_memory_fits = refl

ex_memory_too_large : fault (after 7) (AllocateMemory 3 8 268435454) ≡ Some LimitReached
unfolding all
ex_memory_too_large = refl

-- a bound resource is bound once
ex_bound_twice : fault (after 12) (BindBufferMemory 3 9 8 0) ≡ Some AlreadyBound
unfolding all
ex_bound_twice = refl

-- an image that is acquired, and one that is not
ex_acquired : fault (after 20) (AcquireNextImageKHR 3 5 0 7 0 0) ≡ Some SignalState
unfolding all
ex_acquired = refl

ex_not_acquired : fault (after 19) (QueuePresentKHR 4 [] (record { swapchain = 5; index = 0 } ∷ [])) ≡ Some SwapState
unfolding all
ex_not_acquired = refl

-- an end marker, and a begin marker that is not first
ex_no_section : fault (after 1) (EndSection 1) ≡ Some StateOrder
unfolding all
ex_no_section = refl

ex_late_section : fault (after 1) (BeginSection 1) ≡ Some StateOrder
unfolding all
ex_late_section = refl

ex_other_frame : fault (BeginSection 2 ∷ []) (EndSection 1) ≡ Some BadValue
unfolding all
ex_other_frame = refl

ex_destroy_in_section : fault (BeginSection 2 ∷ []) (DestroyInstance 1) ≡ Some StateOrder
unfolding all
ex_destroy_in_section = refl

-- a region below the image, and the index of a present before its image
ex_below : fault (after 16) (CmdCopyBufferToImage 11 9 6 7 (record { offset = 0; row = 0; rows = 0; x = 0; y = 1; width = 3; height = 1 } ∷ [])) ≡ Some OutOfRange
unfolding all
ex_below = refl

ex_index_first : fault (after 19) (QueuePresentKHR 4 [] (record { swapchain = 5; index = 1 } ∷ [])) ≡ Some OutOfRange
unfolding all
ex_index_first = refl
