-- Examples of each word of the check table, but the two whose limits are too large to compute.
use Rattle.gfx_model.proofs.ExampleCaptures.{after, all, f1}
use Rattle.gfx_model.specs.Checks.{broken}
use Rattle.gfx_model.specs.Checks.Check.{frame_room}
use Rattle.gfx_model.specs.Events.{Event}
use Rattle.gfx_model.specs.Events.Event.{AcquireNextImageKHR, AllocateCommandBuffers, AllocateMemory, BeginCommandBuffer, BeginSection, BindBufferMemory, BindImageMemory, CmdCopyBufferToImage, CmdCopyImage, CmdFillBuffer, CreateCommandPool, CreateDevice, CreateFence, CreateHeadlessSurfaceEXT, CreateImage, CreateInstance, CreateSemaphore, CreateSwapchainKHR, DestroyDevice, DestroyInstance, DestroySurfaceKHR, DeviceWaitIdle, EndCommandBuffer, FillMemory, FreeCommandBuffers, FreeMemory, GetFenceStatus, GetSwapchainImagesKHR, InitImage, MapMemory, QueueSubmit, ResetCommandBuffer, ResetFences, SetSemaphoreState, SetSwapchainState, UnmapMemory, WaitForFences}
use Rattle.gfx_model.specs.History.{fault, onto, view}
use Rattle.gfx_model.specs.Section.{section}
use Rattle.gfx_types.specs.declared.names.Fault.TheVariants.{BadValue, CommandState, FormatDiffers, HasChildren, IdTaken, LimitReached, MapState, NotBound, NotLive, OutOfRange, PoolRule, ResultDiffers, StateOrder, SwapState, WrongParent}
use Rattle.std.specs.Prelude.{List, None, Some, [], refl, take, ◌++◌, ◌∷◌, ◌≡◌}

-- another device
ex_of : fault (CreateDevice 1 20 ∷ after 8) (FreeMemory 20 8) ≡ Some WrongParent
unfolding all
ex_of = refl

ex_near : fault (CreateSemaphore 20 23 ∷ CreateDevice 1 20 ∷ after 19) (QueueSubmit 4 (record { waits = 23 ∷ []; cbs = []; signals = [] } ∷ []) 0) ≡ Some WrongParent
unfolding all
ex_near = refl

-- a parent with children; the queue of a device goes with it
ex_childless : fault (after 3) (DestroyInstance 1) ≡ Some HasChildren
unfolding all
ex_childless = refl

ex_queue_goes : fault (after 4) (DestroyDevice 3) ≡ None
unfolding all
ex_queue_goes = refl

ex_device_stays : fault (after 7) (DestroyDevice 3) ≡ Some HasChildren
unfolding all
ex_device_stays = refl

-- a surface with a swapchain
ex_surface_stays : fault (after 5) (DestroySurfaceKHR 1 2) ≡ Some HasChildren
unfolding all
ex_surface_stays = refl

ex_surface_taken : fault (after 5) (CreateSwapchainKHR 3 12 2 1 13 3 1 3) ≡ Some SwapState
unfolding all
ex_surface_taken = refl

ex_other_instance : fault (CreateHeadlessSurfaceEXT 30 31 ∷ CreateInstance 30 1 ∷ after 4) (CreateSwapchainKHR 3 12 31 1 13 3 1 3) ≡ Some WrongParent
unfolding all
ex_other_instance = refl

-- the images of a swapchain, again and anew
ex_same_images : fault (after 6) (GetSwapchainImagesKHR 3 5 (6 ∷ [])) ≡ None
unfolding all
ex_same_images = refl

ex_other_images : fault (after 6) (GetSwapchainImagesKHR 3 5 (7 ∷ [])) ≡ Some ResultDiffers
unfolding all
ex_other_images = refl

ex_two_images : fault (after 5) (GetSwapchainImagesKHR 3 5 (6 ∷ 7 ∷ [])) ≡ Some ResultDiffers
unfolding all
ex_two_images = refl

ex_used_image : fault (after 5) (GetSwapchainImagesKHR 3 5 (3 ∷ [])) ≡ Some IdTaken
unfolding all
ex_used_image = refl

-- ranges end with their memory
ex_map_end : fault (after 8) (MapMemory 3 8 63 18446744073709551615) ≡ None
unfolding all
ex_map_end = refl

ex_map_past : fault (after 8) (MapMemory 3 8 64 18446744073709551615) ≡ Some OutOfRange
unfolding all
ex_map_past = refl

ex_map_again : fault (after 9) (MapMemory 3 8 0 1) ≡ Some MapState
unfolding all
ex_map_again = refl

ex_not_mapped : fault (after 8) (UnmapMemory 3 8) ≡ Some MapState
unfolding all
ex_not_mapped = refl

-- a buffer of 16 bytes in a memory of 64
ex_bind_end : fault (after 11) (BindBufferMemory 3 9 8 48) ≡ None
unfolding all
ex_bind_end = refl

ex_bind_past : fault (after 11) (BindBufferMemory 3 9 8 64) ≡ Some OutOfRange
unfolding all
ex_bind_past = refl

ex_bind_odd : fault (after 11) (BindBufferMemory 3 9 8 40) ≡ Some BadValue
unfolding all
ex_bind_odd = refl

-- the buffer is recording before its resource is bound
unbound_yet : List Event
unbound_yet = onto (CreateCommandPool 3 10 2 ∷ AllocateCommandBuffers 3 10 (11 ∷ []) ∷ BeginCommandBuffer 11 0 ∷ []) (after 11)

ex_unbound : fault unbound_yet (CmdFillBuffer 11 9 0 4 0) ≡ Some NotBound
unfolding all unbound_yet
ex_unbound = refl

ex_recording : fault (after 15) (BeginCommandBuffer 11 0) ≡ Some CommandState
unfolding all
ex_recording = refl

ex_begin_flags : fault (after 15) (BeginCommandBuffer 11 2) ≡ Some BadValue
unfolding all
ex_begin_flags = refl

-- a pool whose buffers are recorded once
once : List Event
once = onto (CreateCommandPool 3 12 0 ∷ AllocateCommandBuffers 3 12 (13 ∷ []) ∷ BeginCommandBuffer 13 0 ∷ EndCommandBuffer 13 ∷ []) (after 14)

ex_begin_again : fault once (BeginCommandBuffer 13 0) ≡ Some PoolRule
unfolding all once
ex_begin_again = refl

ex_reset_one : fault once (ResetCommandBuffer 13) ≡ Some PoolRule
unfolding all once
ex_reset_one = refl

ex_reset : fault (after 19) (ResetCommandBuffer 11) ≡ None
unfolding all
ex_reset = refl

ex_free_twice : fault (after 19) (FreeCommandBuffers 3 10 (11 ∷ 11 ∷ [])) ≡ Some NotLive
unfolding all
ex_free_twice = refl

-- an image of one texel of 4 bytes, bound behind the buffer
wide_texel : List Event
wide_texel = onto (CreateImage 3 14 98 1 1 3 ∷ BindImageMemory 3 14 8 16 ∷ []) (after 16)

ex_texels : fault wide_texel (CmdCopyImage 11 6 6 14 7 (record { from_x = 0; from_y = 0; to_x = 0; to_y = 0; width = 1; height = 1 } ∷ [])) ≡ Some FormatDiffers
unfolding all wide_texel
ex_texels = refl

ex_texel_offset : fault wide_texel (CmdCopyBufferToImage 11 9 14 7 (record { offset = 2; row = 0; rows = 0; x = 0; y = 0; width = 1; height = 1 } ∷ [])) ≡ Some BadValue
unfolding all wide_texel
ex_texel_offset = refl

ex_last_texel : fault wide_texel (CmdCopyBufferToImage 11 9 14 7 (record { offset = 12; row = 0; rows = 0; x = 0; y = 0; width = 1; height = 1 } ∷ [])) ≡ None
unfolding all wide_texel
ex_last_texel = refl

ex_past_texel : fault wide_texel (CmdCopyBufferToImage 11 9 14 7 (record { offset = 16; row = 0; rows = 0; x = 0; y = 0; width = 1; height = 1 } ∷ [])) ≡ Some OutOfRange
unfolding all wide_texel
ex_past_texel = refl

ex_short_row : fault (after 16) (CmdCopyBufferToImage 11 9 6 7 (record { offset = 0; row = 2; rows = 0; x = 0; y = 0; width = 3; height = 1 } ∷ [])) ≡ Some BadValue
unfolding all
ex_short_row = refl

-- answers about signals
ex_status : fault (after 7) (GetFenceStatus 3 7 1) ≡ None
unfolding all
ex_status = refl

ex_wrong_status : fault (after 7) (GetFenceStatus 3 7 0) ≡ Some ResultDiffers
unfolding all
ex_wrong_status = refl

ex_some : fault (CreateFence 3 12 1 ∷ after 7) (WaitForFences 3 (7 ∷ 12 ∷ []) 0 0) ≡ None
unfolding all
ex_some = refl

ex_not_all : fault (CreateFence 3 12 1 ∷ after 7) (WaitForFences 3 (7 ∷ 12 ∷ []) 1 0) ≡ Some ResultDiffers
unfolding all
ex_not_all = refl

ex_timeout : fault (CreateFence 3 12 1 ∷ after 7) (WaitForFences 3 (7 ∷ 12 ∷ []) 0 2) ≡ Some ResultDiffers
unfolding all
ex_timeout = refl

-- acquires
ex_no_index : fault (after 19) (AcquireNextImageKHR 3 5 0 7 1 0) ≡ Some OutOfRange
unfolding all
ex_no_index = refl

ex_acquired_twice : fault (ResetFences 3 (7 ∷ []) ∷ after 20) (AcquireNextImageKHR 3 5 0 7 0 0) ≡ Some SwapState
unfolding all
ex_acquired_twice = refl

ex_not_ready : fault (ResetFences 3 (7 ∷ []) ∷ after 20) (AcquireNextImageKHR 3 5 0 7 0 1) ≡ None
unfolding all
ex_not_ready = refl

ex_ready : fault (after 19) (AcquireNextImageKHR 3 5 0 7 0 1) ≡ Some ResultDiffers
unfolding all
ex_ready = refl

ex_nothing_signalled : fault (after 19) (AcquireNextImageKHR 3 5 0 0 0 0) ≡ Some BadValue
unfolding all
ex_nothing_signalled = refl

-- the last frame, and one more
ex_last_frame : broken (record (view []) { next_frame = 4611686018427387904 }) frame_room ≡ None
unfolding all
ex_last_frame = refl

ex_past_frames : broken (record (view []) { next_frame = 4611686018427387905 }) frame_room ≡ Some LimitReached
unfolding all
ex_past_frames = refl

-- a fill lies inside the map, and in a section inside the memory
ex_fill_map : fault (MapMemory 3 8 16 16 ∷ after 8) (FillMemory 8 16 (1 ∷ [])) ≡ None
unfolding all
ex_fill_map = refl

ex_fill_before : fault (MapMemory 3 8 16 16 ∷ after 8) (FillMemory 8 15 (1 ∷ [])) ≡ Some OutOfRange
unfolding all
ex_fill_before = refl

ex_fill_past : fault (MapMemory 3 8 16 16 ∷ after 8) (FillMemory 8 31 (1 ∷ 2 ∷ [])) ≡ Some OutOfRange
unfolding all
ex_fill_past = refl

-- in a section
in_section : List Event
in_section = onto (BeginSection 1 ∷ take 6 f1 ++ AllocateMemory 3 8 64 ∷ MapMemory 3 8 0 4 ∷ CreateSemaphore 3 23 ∷ []) []

ex_fill_memory : fault in_section (FillMemory 8 60 (1 ∷ 2 ∷ 3 ∷ 4 ∷ [])) ≡ None
unfolding all in_section
ex_fill_memory = refl

ex_fill_past_memory : fault in_section (FillMemory 8 61 (1 ∷ 2 ∷ 3 ∷ 4 ∷ [])) ≡ Some OutOfRange
unfolding all in_section
ex_fill_past_memory = refl

ex_image_bytes : fault in_section (InitImage 6 0 (1 ∷ 2 ∷ 3 ∷ [])) ≡ None
unfolding all in_section
ex_image_bytes = refl

ex_no_image_bytes : fault in_section (InitImage 6 7 []) ≡ Some BadValue
unfolding all in_section
ex_no_image_bytes = refl

ex_no_layout : fault in_section (InitImage 6 5 (1 ∷ 2 ∷ 3 ∷ [])) ≡ Some BadValue
unfolding all in_section
ex_no_layout = refl

ex_marks : fault in_section (SetSwapchainState 5 (1 ∷ [])) ≡ None
unfolding all in_section
ex_marks = refl

ex_too_many_marks : fault in_section (SetSwapchainState 5 (0 ∷ 1 ∷ [])) ≡ Some BadValue
unfolding all in_section
ex_too_many_marks = refl

ex_no_mark : fault in_section (SetSwapchainState 5 (2 ∷ [])) ≡ Some BadValue
unfolding all in_section
ex_no_mark = refl

ex_semaphore : fault in_section (SetSemaphoreState 23 1) ≡ None
unfolding all in_section
ex_semaphore = refl

ex_wait_in_section : fault in_section (DeviceWaitIdle 3) ≡ Some StateOrder
unfolding all in_section
ex_wait_in_section = refl

-- a fence is signalled after the section as before it
ex_fence_kept : fault (onto (section (after 22) 2) []) (WaitForFences 3 (7 ∷ []) 1 0) ≡ None
unfolding all
ex_fence_kept = refl
