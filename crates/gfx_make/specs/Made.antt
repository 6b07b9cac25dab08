-- The capture that is made to try the program: a setup, and so many frames. Lists of events have the oldest first, as files do.
use Rattle.std.specs.Prelude.{ℕ, ◌+◌, ◌*◌, ◌-◌, ◌/◌, ◌%◌, List, [], ◌∷◌, ◌++◌, map, flat_map}
use Rattle.std.specs.List.{range_with_len}
use Rattle.gfx_model.specs.Events.{Event}
use Rattle.gfx_model.specs.Events.Event.{CreateInstance, CreateHeadlessSurfaceEXT, CreateDevice, GetDeviceQueue, CreateSwapchainKHR, GetSwapchainImagesKHR, AllocateMemory, MapMemory, CreateBuffer, BindBufferMemory, CreateCommandPool, AllocateCommandBuffers, CreateSemaphore, CreateFence, BeginCommandBuffer, CmdPipelineBarrier, CmdCopyBufferToImage, EndCommandBuffer, WaitForFences, ResetFences, FillMemory, AcquireNextImageKHR, QueueSubmit, QueuePresentKHR}
use Rattle.gfx_model.specs.Spelling.{encoding, header}

-- an instance, a surface, a device and its queue
abbrev pub device : List Event
device = CreateInstance 1 4194304 ∷ CreateHeadlessSurfaceEXT 1 2 ∷ CreateDevice 1 3 ∷ GetDeviceQueue 3 4 ∷ []

-- a swapchain of two images of 640 by 480 texels
abbrev pub images : List Event
images = CreateSwapchainKHR 3 5 2 2 44 640 480 3 ∷ GetSwapchainImagesKHR 3 5 (6 ∷ 7 ∷ []) ∷ []

-- a buffer of the bytes of one image, in mapped memory
abbrev pub memory : List Event
memory = AllocateMemory 3 8 1228800 ∷ MapMemory 3 8 0 1228800 ∷ CreateBuffer 3 9 1228800 1 ∷ BindBufferMemory 3 9 8 0 ∷ []

-- two command buffers
abbrev pub buffers : List Event
buffers = CreateCommandPool 3 10 2 ∷ AllocateCommandBuffers 3 10 (11 ∷ 12 ∷ []) ∷ []

-- two semaphores, and a fence that is signalled
abbrev pub signals : List Event
signals = CreateSemaphore 3 13 ∷ CreateSemaphore 3 14 ∷ CreateFence 3 15 1 ∷ []

-- an image goes from one layout to another
abbrev pub goes : (cb image before after : ℕ) → Event
goes cb image before after = CmdPipelineBarrier cb (record { image = image; before = before; after = after } ∷ [])

-- the buffer is copied into a whole image
abbrev pub uploads : (cb image : ℕ) → Event
uploads cb image =
    CmdCopyBufferToImage cb 9 image 7 (record { offset = 0; row = 0; rows = 0; x = 0; y = 0; width = 640; height = 480 } ∷ [])

-- command buffer 11 + i copies the buffer into image 6 + i, and leaves it ready to present
abbrev pub recording : (i : ℕ) → List Event
recording i =
    BeginCommandBuffer (11 + i) 0
    ∷ goes (11 + i) (6 + i) 0 7
    ∷ uploads (11 + i) (6 + i)
    ∷ goes (11 + i) (6 + i) 7 1000001002
    ∷ EndCommandBuffer (11 + i)
    ∷ []

-- all objects
abbrev pub objects : List Event
objects = device ++ images ++ memory ++ buffers ++ signals

-- all that is before the first frame
unfoldable pub setup : List Event
setup = objects ++ recording 0 ++ recording 1

-- byte j of the bytes that frame k fills in
abbrev pub frame_byte : (k j : ℕ) → ℕ
frame_byte k j = (31 * k + 7 * j + j / 256) % 256

-- the bytes that frame k fills in: a thirtieth of the memory
unfoldable pub frame_bytes : (k : ℕ) → List ℕ
frame_bytes k = map (frame_byte k) (range_with_len 0 40960)

-- the fence is waited for
abbrev pub waits : Event
waits = WaitForFences 3 (15 ∷ []) 1 0

-- and reset
abbrev pub resets : Event
resets = ResetFences 3 (15 ∷ [])

-- a command buffer is executed once the image is there, and signals that it may be presented
abbrev pub submits : (cb : ℕ) → Event
submits cb = QueueSubmit 4 (record { waits = 13 ∷ []; cbs = cb ∷ []; signals = 14 ∷ [] } ∷ []) 15

-- image i is presented
abbrev pub shows : (i : ℕ) → Event
shows i = QueuePresentKHR 4 (14 ∷ []) (record { swapchain = 5; index = i } ∷ [])

-- a frame that fills in bytes, and copies and presents image i
abbrev pub frame_with : (i offset : ℕ) (bytes : List ℕ) → List Event
frame_with i offset bytes =
    waits ∷ resets ∷ FillMemory 8 offset bytes ∷ AcquireNextImageKHR 3 5 13 0 i 0 ∷ submits (11 + i) ∷ shows i ∷ []

-- frame k, from 1 on: the two images take turns, and so do the thirty parts of the memory
unfoldable pub frame_events : (k : ℕ) → List Event
frame_events k = frame_with ((k - 1) % 2) ((k - 1) % 30 * 40960) (frame_bytes k)

-- the setup and n frames
unfoldable pub made : (n : ℕ) → List Event
made n = setup ++ flat_map frame_events (range_with_len 1 n)

-- the blocks of events, one after another
unfoldable pub blocks : List Event → List ℕ
blocks es = flat_map (encoding 1 0) es

-- the file of n frames
unfoldable pub made_file : (n : ℕ) → List ℕ
made_file n = header 1 ++ blocks (made n)
