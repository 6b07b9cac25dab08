-- The captures of the examples.
use Rattle.gfx_model.specs.Blocks.{Whole, framing_fault, header_fault, start_fault, head_fault}
use Rattle.gfx_model.specs.Blocks.Content.{effect}
use Rattle.gfx_model.specs.Bytes.{byte}
use Rattle.gfx_model.specs.Checks.{broken, layouts_of, turns_fault}
use Rattle.gfx_model.specs.Effects.{changes_of_command, effect_of}
use Rattle.gfx_model.specs.Events.{Event}
use Rattle.gfx_model.specs.Events.Event.{AcquireNextImageKHR, AllocateCommandBuffers, AllocateMemory, BeginCommandBuffer, BindBufferMemory, CmdCopyBufferToImage, CmdPipelineBarrier, CreateBuffer, CreateCommandPool, CreateDevice, CreateFence, CreateHeadlessSurfaceEXT, CreateInstance, CreateSemaphore, CreateSwapchainKHR, EndCommandBuffer, FillMemory, GetDeviceQueue, GetSwapchainImagesKHR, MapMemory, QueuePresentKHR, QueueSubmit, ResetFences}
use Rattle.gfx_model.specs.Frames.{frames}
use Rattle.gfx_model.specs.History.{onto, steps}
use Rattle.gfx_model.specs.Meaning.{judge}
use Rattle.gfx_model.specs.Questions.{acquired, bound, buffer, executed_changes, ids, layout, live, mapped, next_frame, open_section, signalled, used}
use Rattle.gfx_model.specs.Section.{fills_of, section}
use Rattle.gfx_model.specs.Spelling.{encoding, fields_of, id_of, payload, spelling, type_of}
use Rattle.gfx_model.specs.Steps.{resources_of}
use Rattle.gfx_model.specs.Table.{place_of, row_of}
use Rattle.gfx_model.specs.Trimmed.{cut_before}
use Rattle.gfx_types.specs.declared.frame.Frame.{Frame}
use Rattle.gfx_types.specs.declared.lists.MixedRegion.{MixedRegion}
use Rattle.gfx_types.specs.declared.lists.Present.{Present}
use Rattle.std.specs.Fmt.{digits}
use Rattle.std.specs.Prelude.{List, [], drop, flat_map, length, map, sum, take, ℕ, ◌++◌, ◌+◌, ◌∷◌}

-- opens the definitions that are computed
unfoldable pub opened : ℕ
unfolding fields_of spelling id_of type_of payload encoding resources_of live ids used bound mapped buffer signalled acquired executed_changes layout next_frame open_section layouts_of turns_fault broken place_of row_of changes_of_command effect_of steps byte frames section fills_of start_fault header_fault head_fault framing_fault judge cut_before digits
opened = 0

-- the calls of the smallest capture that shows a frame of three bytes
unfoldable pub f1 : List Event
f1 =
    CreateInstance 1 4194304 ∷
    CreateHeadlessSurfaceEXT 1 2 ∷
    CreateDevice 1 3 ∷
    GetDeviceQueue 3 4 ∷
    CreateSwapchainKHR 3 5 2 1 13 3 1 3 ∷
    GetSwapchainImagesKHR 3 5 (6 ∷ []) ∷
    CreateFence 3 7 0 ∷
    AllocateMemory 3 8 64 ∷
    MapMemory 3 8 0 18446744073709551615 ∷
    FillMemory 8 0 (97 ∷ 98 ∷ 99 ∷ []) ∷
    CreateBuffer 3 9 16 1 ∷
    BindBufferMemory 3 9 8 0 ∷
    CreateCommandPool 3 10 2 ∷
    AllocateCommandBuffers 3 10 (11 ∷ []) ∷
    BeginCommandBuffer 11 0 ∷
    CmdPipelineBarrier 11 (record { image = 6; before = 0; after = 7 } ∷ []) ∷
    CmdCopyBufferToImage 11 9 6 7 (record { offset = 0; row = 0; rows = 0; x = 0; y = 0; width = 3; height = 1 } ∷ []) ∷
    CmdPipelineBarrier 11 (record { image = 6; before = 7; after = 1000001002 } ∷ []) ∷
    EndCommandBuffer 11 ∷
    AcquireNextImageKHR 3 5 0 7 0 0 ∷
    QueueSubmit 4 (record { waits = []; cbs = 11 ∷ []; signals = [] } ∷ []) 0 ∷
    QueuePresentKHR 4 [] (record { swapchain = 5; index = 0 } ∷ []) ∷
    []

-- the history of the first n of them
unfoldable pub after : ℕ → List Event
after n = onto (take n f1) []

unfoldable pub frame2 : List Event
frame2 = ResetFences 3 (7 ∷ []) ∷ drop 19 f1

unfoldable pub f3 : List Event
f3 = f1 ++ frame2 ++ frame2

-- the blocks of these events in minor version m, from a number and an offset on
unfoldable pub wholes : ℕ → ℕ → ℕ → List Event → List Whole
wholes m number offset [] = []
wholes m number offset (e ∷ es) =
    let bytes = encoding m 0 e in
    record { number = number; offset = offset; bytes = bytes; content = effect 0 e } ∷ wholes m (number + 1) (offset + length bytes) es

unfoldable pub file3 : List Whole
file3 = wholes 1 1 16 f3

unfoldable pub region : ℕ → ℕ → MixedRegion
region w height = record { offset = 0; row = 0; rows = 0; x = 0; y = 0; width = w; height = height }

unfoldable pub bytes_of : List Event → ℕ
bytes_of es = sum (map (λ e. length (encoding 1 0 e)) es)

unfoldable pub pixels_of : List Frame → List ℕ
pixels_of fs = flat_map (λ f. flat_map (λ p. p.pixels) f.pictures) fs

-- frame 1 also fills a memory that nothing is bound to
unfoldable pub other_memory : List Event
other_memory = AllocateMemory 3 12 64 ∷ MapMemory 3 12 0 18446744073709551615 ∷ FillMemory 12 0 (120 ∷ 121 ∷ 122 ∷ []) ∷ []

-- a second swapchain that is not fetched, with an acquired image and a signalled semaphore
unfoldable pub second_device : List Event
second_device =
    CreateHeadlessSurfaceEXT 1 21 ∷
    CreateDevice 1 20 ∷
    CreateSwapchainKHR 20 22 21 1 13 1 1 3 ∷
    CreateSemaphore 20 23 ∷
    AcquireNextImageKHR 20 22 23 0 0 0 ∷
    []

unfoldable pub z2 : List Present → List Event
z2 shown =
    CreateInstance 1 4194304 ∷
    CreateHeadlessSurfaceEXT 1 2 ∷
    CreateDevice 1 3 ∷
    GetDeviceQueue 3 4 ∷
    CreateSwapchainKHR 3 5 2 1 13 1 1 3 ∷
    GetSwapchainImagesKHR 3 5 (6 ∷ []) ∷
    CreateHeadlessSurfaceEXT 1 7 ∷
    CreateSwapchainKHR 3 8 7 1 13 1 1 3 ∷
    GetSwapchainImagesKHR 3 8 (9 ∷ []) ∷
    CreateFence 3 10 0 ∷
    CreateFence 3 11 0 ∷
    CreateCommandPool 3 12 2 ∷
    AllocateCommandBuffers 3 12 (13 ∷ []) ∷
    BeginCommandBuffer 13 0 ∷
    CmdPipelineBarrier 13 (record { image = 6; before = 0; after = 1000001002 } ∷ record { image = 9; before = 0; after = 1000001002 } ∷ []) ∷
    EndCommandBuffer 13 ∷
    AcquireNextImageKHR 3 5 0 10 0 0 ∷
    AcquireNextImageKHR 3 8 0 11 0 0 ∷
    QueueSubmit 4 (record { waits = []; cbs = 13 ∷ []; signals = [] } ∷ []) 0 ∷
    QueuePresentKHR 4 [] shown ∷
    []

unfoldable pub both : List Present
both = record { swapchain = 5; index = 0 } ∷ record { swapchain = 8; index = 0 } ∷ []

-- the definitions and the captures
unfoldable pub all : ℕ
unfolding opened f1 after frame2 f3 wholes file3 region bytes_of pixels_of other_memory second_device z2 both
all = 0
