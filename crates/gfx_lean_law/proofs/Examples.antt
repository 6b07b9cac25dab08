-- The walk and the fills that it keeps, evaluated on small captures.
use Rattle.std.proofs.Common.{◌≡◌, ℕ, ◌+◌, true, false, not, ◌==◌, refl, List, [], ◌∷◌, ◌++◌, map, filter, length, sum, take, drop}
use Rattle.std.specs.List.{range_with_len}
use Rattle.gfx_types.specs.declared.op.Place.TheVariants as place
use Rattle.gfx_model.specs.Events.{Event}
use Rattle.gfx_model.specs.Events.Event.{AcquireNextImageKHR, AllocateCommandBuffers, AllocateMemory, BeginCommandBuffer, BindBufferMemory, CmdCopyBufferToImage, CmdPipelineBarrier, CreateBuffer, CreateCommandPool, CreateDevice, CreateFence, CreateHeadlessSurfaceEXT, CreateInstance, CreateSwapchainKHR, EndCommandBuffer, FillMemory, GetDeviceQueue, GetSwapchainImagesKHR, MapMemory, QueuePresentKHR, QueueSubmit, ResetFences}
use Rattle.gfx_model.specs.Steps.{resources_of}
use Rattle.gfx_model.specs.Steps.Change.{copy}
use Rattle.gfx_model.specs.Spelling.{fields_of, spelling, id_of, type_of, payload, encoding}
use Rattle.gfx_model.specs.Questions.{live, ids, used, bound, mapped, buffer, signalled, acquired, executed_changes, layout, next_frame, open_section}
use Rattle.gfx_model.specs.Checks.{layouts_of, turns_fault, broken}
use Rattle.gfx_model.specs.Table.{place_of, row_of}
use Rattle.gfx_model.specs.Effects.{changes_of_command, effect_of}
use Rattle.gfx_model.specs.History.{onto, steps}
use Rattle.gfx_model.specs.Bytes.{byte}
use Rattle.gfx_model.specs.Section.{section, fills_of}
use Rattle.gfx_feature_model.specs.Lean.{kept_section}
use Rattle.gfx_feature_model.specs.Asked.{Questions, below, asked_by}
use Rattle.gfx_lean_law.specs.Computed.{computed_keep}

-- the calls of the smallest capture that shows a frame of three bytes
f1 : List Event
f1 =
    CreateInstance 1 4194304
    ∷ CreateHeadlessSurfaceEXT 1 2
    ∷ CreateDevice 1 3
    ∷ GetDeviceQueue 3 4
    ∷ CreateSwapchainKHR 3 5 2 1 13 3 1 3
    ∷ GetSwapchainImagesKHR 3 5 (6 ∷ [])
    ∷ CreateFence 3 7 0
    ∷ AllocateMemory 3 8 64
    ∷ MapMemory 3 8 0 18446744073709551615
    ∷ FillMemory 8 0 (97 ∷ 98 ∷ 99 ∷ [])
    ∷ CreateBuffer 3 9 16 1
    ∷ BindBufferMemory 3 9 8 0
    ∷ CreateCommandPool 3 10 2
    ∷ AllocateCommandBuffers 3 10 (11 ∷ [])
    ∷ BeginCommandBuffer 11 0
    ∷ CmdPipelineBarrier 11 (record { image = 6; before = 0; after = 7 } ∷ [])
    ∷ CmdCopyBufferToImage 11 9 6 7 (record { offset = 0; row = 0; rows = 0; x = 0; y = 0; width = 3; height = 1 } ∷ [])
    ∷ CmdPipelineBarrier 11 (record { image = 6; before = 7; after = 1000001002 } ∷ [])
    ∷ EndCommandBuffer 11
    ∷ AcquireNextImageKHR 3 5 0 7 0 0
    ∷ QueueSubmit 4 (record { waits = []; cbs = 11 ∷ []; signals = [] } ∷ []) 0
    ∷ QueuePresentKHR 4 [] (record { swapchain = 5; index = 0 } ∷ [])
    ∷ []

-- and those of a second frame
frame2 : List Event
frame2 = ResetFences 3 (7 ∷ []) ∷ drop 19 f1

-- frame 1 also fills a memory that nothing reads
other_memory : List Event
other_memory = AllocateMemory 3 12 64 ∷ MapMemory 3 12 0 18446744073709551615 ∷ FillMemory 12 0 (120 ∷ 121 ∷ 122 ∷ []) ∷ []

bytes_of : List Event → ℕ
bytes_of es = sum (map (λ e. length (encoding 1 0 e)) es)

-- a copy passes on the question for what it wrote, as one for what it read
ex_copy : map (below (copy (place.Image 6) 2 (place.Memory 8) 5 2) (λ at j. true) (place.Memory 8)) (5 ∷ 7 ∷ []) ≡ true ∷ true ∷ []
ex_copy = refl

only_image : Questions
only_image (place.Image x) j = x == 6
only_image (place.Memory m) j = false

ex_copied : map (below (copy (place.Image 6) 2 (place.Memory 8) 5 2) only_image (place.Memory 8)) (4 ∷ 5 ∷ 6 ∷ 7 ∷ []) ≡ false ∷ true ∷ true ∷ false ∷ []
unfolding only_image
ex_copied = refl

-- what it wrote itself is not asked for below it
ex_written : map (below (copy (place.Image 6) 2 (place.Memory 8) 5 2) only_image (place.Image 6)) (1 ∷ 2 ∷ 3 ∷ 4 ∷ []) ≡ true ∷ false ∷ false ∷ true ∷ []
unfolding only_image
ex_written = refl

-- frame 2 asks for three bytes of memory 8, and for none of its image
ex_asked : filter (asked_by (onto f1 []) frame2 (place.Memory 8)) (range_with_len 0 8) ≡ 0 ∷ 1 ∷ 2 ∷ []
unfolding f1 frame2 other_memory bytes_of fields_of spelling id_of type_of payload encoding resources_of live ids used bound mapped buffer signalled acquired executed_changes layout next_frame open_section layouts_of turns_fault broken place_of row_of changes_of_command effect_of steps byte section fills_of kept_section
ex_asked = refl

ex_not_asked : filter (asked_by (onto f1 []) frame2 (place.Image 6)) (range_with_len 0 3) ≡ []
unfolding f1 frame2 other_memory bytes_of fields_of spelling id_of type_of payload encoding resources_of live ids used bound mapped buffer signalled acquired executed_changes layout next_frame open_section layouts_of turns_fault broken place_of row_of changes_of_command effect_of steps byte section fills_of kept_section
ex_not_asked = refl

-- with a memory that nothing reads, its fill is dropped, though its id is kept
with_other : List Event
with_other = onto (take 21 f1 ++ other_memory ++ drop 21 f1) []

ex_kept : 16 + bytes_of (kept_section (computed_keep (λ x. true) with_other frame2) with_other 2) + bytes_of frame2 + bytes_of (drop 2 other_memory) ≡ 1465
unfolding f1 frame2 other_memory bytes_of fields_of spelling id_of type_of payload encoding resources_of live ids used bound mapped buffer signalled acquired executed_changes layout next_frame open_section layouts_of turns_fault broken place_of row_of changes_of_command effect_of steps byte section fills_of kept_section with_other
ex_kept = refl

-- and with its id nothing of it is left
ex_lean : 16 + bytes_of (kept_section (computed_keep (λ x. not (x == 12)) with_other frame2) with_other 2) + bytes_of frame2 ≡ 1310
unfolding f1 frame2 other_memory bytes_of fields_of spelling id_of type_of payload encoding resources_of live ids used bound mapped buffer signalled acquired executed_changes layout next_frame open_section layouts_of turns_fault broken place_of row_of changes_of_command effect_of steps byte section fills_of kept_section with_other
ex_lean = refl
