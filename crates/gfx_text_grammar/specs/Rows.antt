-- Reading of the fields of events, by the rows of the format.
use Rattle.std.specs.Prelude.{ℕ, ◌==◌, ◌&&◌, if◌then◌else◌, List, [], ◌∷◌, Option, Some, None, codes}
use Prim.Native.String.{String}
use Rattle.gfx_types.specs.declared.lists.Submit.{Submit}
use Rattle.gfx_model.specs.Events.{Event}
use Rattle.gfx_model.specs.Events.Event.{CreateInstance, DestroyInstance, CreateHeadlessSurfaceEXT, DestroySurfaceKHR, CreateDevice, DestroyDevice, GetDeviceQueue, AllocateMemory, FreeMemory, MapMemory, UnmapMemory, CreateBuffer, DestroyBuffer, BindBufferMemory, CreateImage, DestroyImage, BindImageMemory, CreateCommandPool, DestroyCommandPool, ResetCommandPool, AllocateCommandBuffers, FreeCommandBuffers, BeginCommandBuffer, EndCommandBuffer, ResetCommandBuffer, CmdPipelineBarrier, CmdFillBuffer, CmdUpdateBuffer, CmdCopyBuffer, CmdCopyImage, CmdCopyBufferToImage, CmdCopyImageToBuffer, CmdClearColorImage, CreateFence, DestroyFence, ResetFences, WaitForFences, GetFenceStatus, CreateSemaphore, DestroySemaphore, QueueSubmit, QueueWaitIdle, DeviceWaitIdle, CreateSwapchainKHR, DestroySwapchainKHR, GetSwapchainImagesKHR, AcquireNextImageKHR, QueuePresentKHR, FillMemory, InitImage, SetSwapchainState, SetSemaphoreState, BeginSection, EndSection}
use Rattle.gfx_model.specs.Checks.{same_list}
use Rattle.gfx_script_model.specs.Statements.{is_empty}
use Rattle.gfx_grammar.specs.Reading.{◌>>=◌, Reader}
use Rattle.gfx_grammar.specs.Rows.{with1, with2, with3, with4, with5, with6, with7, with8}
use Rattle.gfx_text_grammar.specs.Reading.{Style, read_u32, read_u64, read_raw, read_id, read_maybe, read_ids, read_words, read_list, read_barrier, read_buffer_region, read_image_region, read_mixed_region, read_present, read_submit}
use Rattle.gfx_text_grammar.specs.FieldReading.{Left, FieldReader, read_field, read_new, read_new_each, ◌⊛◌}

-- ---- fields, by the kind of their values

-- an id
abbrev pub id_field : Style → String → FieldReader ℕ
id_field s name = read_field name (read_id s)

-- an id, or 0
abbrev pub maybe_field : Style → String → FieldReader ℕ
maybe_field s name = read_field name (read_maybe s)

-- a number of eight bytes
abbrev pub wide_field : String → FieldReader ℕ
wide_field name = read_field name read_u64

-- a number of four bytes
abbrev pub short_field : String → FieldReader ℕ
short_field name = read_field name read_u32

-- bytes
abbrev pub raw_field : String → FieldReader (List ℕ)
raw_field name = read_field name read_raw

-- a list of ids
abbrev pub ids_field : Style → String → FieldReader (List ℕ)
ids_field s name = read_field name (read_ids s)

-- a list of numbers
abbrev pub words_field : String → FieldReader (List ℕ)
words_field name = read_field name read_words

-- a list of records
abbrev pub records_field : {X : Type 0} → String → Reader X → FieldReader (List X)
records_field name r = read_field name (read_list r)

-- a list of submits
abbrev pub submits_field : Style → String → FieldReader (List Submit)
submits_field s name = read_field name (read_list (read_submit s))

-- ---- rows

-- the event, where nothing is left over
abbrev pub if_nothing_left : Event → Left → Option Event
if_nothing_left e left = if is_empty left.0 && is_empty left.1 then Some e else None

-- the event of which these are the fields, exactly
unfoldable pub exactly : {X : Type 0} → (X → Event) → FieldReader X → Left → Option Event
exactly build r left = r left >>= λ x. if_nothing_left (build x.0) x.1

-- a present of one image
abbrev pub with_one : ℕ × (List ℕ × (ℕ × ℕ)) → Event
with_one x = QueuePresentKHR x.0 x.1.0 (record { swapchain = x.1.1.0; index = x.1.1.1 } ∷ [])

-- version 1 presents one image, and version 2 a list
unfoldable pub present_row : Style → ℕ → Left → Option Event
present_row s m left =
    if m == 1 then exactly with_one (id_field s "queue" ⊛ ids_field s "waits" ⊛ id_field s "swapchain" ⊛ short_field "index") left
    else exactly (with3 QueuePresentKHR) (id_field s "queue" ⊛ ids_field s "waits" ⊛ records_field "presents" (read_present s)) left

-- a table: a name, and how the fields of its event are read
abbrev pub Rows : Type 0
Rows = List (List ℕ × (Left → Option Event))

-- the row of an event that is built of its fields
abbrev pub row : {X : Type 0} → String → (X → Event) → FieldReader X → List ℕ × (Left → Option Event)
row name build r = (codes name, exactly build r)

-- what the row of this name reads
unfoldable pub by_name : Rows → List ℕ → Left → Option Event
by_name [] name left = None
by_name (r ∷ rows) name left = if same_list r.0 name then r.1 left else by_name rows name left

-- the calls
abbrev pub calls : Style → ℕ → Rows
calls s m =
    row "CreateInstance" (with2 CreateInstance) (read_new s "instance" ⊛ short_field "api")
    ∷ row "DestroyInstance" (with1 DestroyInstance) (id_field s "instance")
    ∷ row "CreateHeadlessSurfaceEXT" (with2 CreateHeadlessSurfaceEXT) (id_field s "instance" ⊛ read_new s "surface")
    ∷ row "DestroySurfaceKHR" (with2 DestroySurfaceKHR) (id_field s "instance" ⊛ id_field s "surface")
    ∷ row "CreateDevice" (with2 CreateDevice) (id_field s "instance" ⊛ read_new s "device")
    ∷ row "DestroyDevice" (with1 DestroyDevice) (id_field s "device")
    ∷ row "GetDeviceQueue" (with2 GetDeviceQueue) (id_field s "device" ⊛ read_new s "queue")
    ∷ row "AllocateMemory" (with3 AllocateMemory) (id_field s "device" ⊛ read_new s "memory" ⊛ wide_field "size")
    ∷ row "FreeMemory" (with2 FreeMemory) (id_field s "device" ⊛ id_field s "memory")
    ∷ row "MapMemory" (with4 MapMemory) (id_field s "device" ⊛ id_field s "memory" ⊛ wide_field "offset"
    ⊛ wide_field "size")
    ∷ row "UnmapMemory" (with2 UnmapMemory) (id_field s "device" ⊛ id_field s "memory")
    ∷ row "CreateBuffer" (with4 CreateBuffer) (id_field s "device" ⊛ read_new s "buffer" ⊛ wide_field "size"
    ⊛ short_field "usage")
    ∷ row "DestroyBuffer" (with2 DestroyBuffer) (id_field s "device" ⊛ id_field s "buffer")
    ∷ row "BindBufferMemory" (with4 BindBufferMemory) (id_field s "device" ⊛ id_field s "buffer" ⊛ id_field s "memory"
    ⊛ wide_field "offset")
    ∷ row "CreateImage" (with6 CreateImage) (id_field s "device" ⊛ read_new s "image" ⊛ short_field "format"
    ⊛ short_field "width" ⊛ short_field "height" ⊛ short_field "usage")
    ∷ row "DestroyImage" (with2 DestroyImage) (id_field s "device" ⊛ id_field s "image")
    ∷ row "BindImageMemory" (with4 BindImageMemory) (id_field s "device" ⊛ id_field s "image" ⊛ id_field s "memory"
    ⊛ wide_field "offset")
    ∷ row "CreateCommandPool" (with3 CreateCommandPool) (id_field s "device" ⊛ read_new s "pool" ⊛ short_field "flags")
    ∷ row "DestroyCommandPool" (with2 DestroyCommandPool) (id_field s "device" ⊛ id_field s "pool")
    ∷ row "ResetCommandPool" (with2 ResetCommandPool) (id_field s "device" ⊛ id_field s "pool")
    ∷ row "AllocateCommandBuffers" (with3 AllocateCommandBuffers) (id_field s "device" ⊛ id_field s "pool"
    ⊛ read_new_each s "buffers")
    ∷ row "FreeCommandBuffers" (with3 FreeCommandBuffers) (id_field s "device" ⊛ id_field s "pool" ⊛ ids_field s "buffers"
    )
    ∷ row "BeginCommandBuffer" (with2 BeginCommandBuffer) (id_field s "cb" ⊛ short_field "flags")
    ∷ row "EndCommandBuffer" (with1 EndCommandBuffer) (id_field s "cb")
    ∷ row "ResetCommandBuffer" (with1 ResetCommandBuffer) (id_field s "cb")
    ∷ row "CmdPipelineBarrier" (with2 CmdPipelineBarrier) (id_field s "cb" ⊛ records_field "barriers" (read_barrier s))
    ∷ row "CmdFillBuffer" (with5 CmdFillBuffer) (id_field s "cb" ⊛ id_field s "buffer" ⊛ wide_field "offset"
    ⊛ wide_field "size" ⊛ short_field "word")
    ∷ row "CmdUpdateBuffer" (with4 CmdUpdateBuffer) (id_field s "cb" ⊛ id_field s "buffer" ⊛ wide_field "offset"
    ⊛ raw_field "bytes")
    ∷ row "CmdCopyBuffer" (with4 CmdCopyBuffer) (id_field s "cb" ⊛ id_field s "source" ⊛ id_field s "target"
    ⊛ records_field "regions" (read_buffer_region s))
    ∷ row "CmdCopyImage" (with6 CmdCopyImage) (id_field s "cb" ⊛ id_field s "source" ⊛ short_field "source_layout"
    ⊛ id_field s "target" ⊛ short_field "target_layout" ⊛ records_field "regions" (read_image_region s))
    ∷ row "CmdCopyBufferToImage" (with5 CmdCopyBufferToImage) (id_field s "cb" ⊛ id_field s "source" ⊛ id_field s "target"
    ⊛ short_field "layout" ⊛ records_field "regions" (read_mixed_region s))
    ∷ row "CmdCopyImageToBuffer" (with5 CmdCopyImageToBuffer) (id_field s "cb" ⊛ id_field s "source"
    ⊛ short_field "layout" ⊛ id_field s "target" ⊛ records_field "regions" (read_mixed_region s))
    ∷ row "CmdClearColorImage" (with7 CmdClearColorImage) (id_field s "cb" ⊛ id_field s "image" ⊛ short_field "layout"
    ⊛ short_field "c0" ⊛ short_field "c1" ⊛ short_field "c2" ⊛ short_field "c3")
    ∷ row "CreateFence" (with3 CreateFence) (id_field s "device" ⊛ read_new s "fence" ⊛ short_field "flags")
    ∷ row "DestroyFence" (with2 DestroyFence) (id_field s "device" ⊛ id_field s "fence")
    ∷ row "ResetFences" (with2 ResetFences) (id_field s "device" ⊛ ids_field s "fences")
    ∷ row "WaitForFences" (with4 WaitForFences) (id_field s "device" ⊛ ids_field s "fences" ⊛ short_field "wait_all"
    ⊛ short_field "answer")
    ∷ row "GetFenceStatus" (with3 GetFenceStatus) (id_field s "device" ⊛ id_field s "fence" ⊛ short_field "answer")
    ∷ row "CreateSemaphore" (with2 CreateSemaphore) (id_field s "device" ⊛ read_new s "semaphore")
    ∷ row "DestroySemaphore" (with2 DestroySemaphore) (id_field s "device" ⊛ id_field s "semaphore")
    ∷ row "QueueSubmit" (with3 QueueSubmit) (id_field s "queue" ⊛ submits_field s "submits" ⊛ maybe_field s "fence")
    ∷ row "QueueWaitIdle" (with1 QueueWaitIdle) (id_field s "queue")
    ∷ row "DeviceWaitIdle" (with1 DeviceWaitIdle) (id_field s "device")
    ∷ row "CreateSwapchainKHR" (with8 CreateSwapchainKHR) (id_field s "device" ⊛ read_new s "swapchain"
    ⊛ id_field s "surface" ⊛ short_field "images" ⊛ short_field "format" ⊛ short_field "width" ⊛ short_field "height"
    ⊛ short_field "usage")
    ∷ row "DestroySwapchainKHR" (with2 DestroySwapchainKHR) (id_field s "device" ⊛ id_field s "swapchain")
    ∷ row "GetSwapchainImagesKHR" (with3 GetSwapchainImagesKHR) (id_field s "device" ⊛ id_field s "swapchain"
    ⊛ read_new_each s "images")
    ∷ row "AcquireNextImageKHR" (with6 AcquireNextImageKHR) (id_field s "device" ⊛ id_field s "swapchain"
    ⊛ maybe_field s "semaphore" ⊛ maybe_field s "fence" ⊛ short_field "index" ⊛ short_field "answer")
    ∷ (codes "QueuePresentKHR", present_row s m)
    ∷ []

-- the metadata
abbrev pub metas : Style → Rows
metas s =
    row "FillMemory" (with3 FillMemory) (id_field s "memory" ⊛ wide_field "offset" ⊛ raw_field "bytes")
    ∷ row "InitImage" (with3 InitImage) (id_field s "image" ⊛ short_field "layout" ⊛ raw_field "bytes")
    ∷ row "SetSwapchainState" (with2 SetSwapchainState) (id_field s "swapchain" ⊛ words_field "acquired")
    ∷ row "SetSemaphoreState" (with2 SetSemaphoreState) (id_field s "semaphore" ⊛ short_field "signalled")
    ∷ []

-- the markers of the state section
abbrev pub markers : Style → Rows
markers s =
    row "begin" (with1 BeginSection) (wide_field "frame")
    ∷ row "end" (with1 EndSection) (wide_field "frame")
    ∷ []

-- the table of a type of block: 2 a marker, 3 a metadata, 4 a call
abbrev pub rows_of : Style → (minor kind : ℕ) → Rows
rows_of s m kind = if kind == 4 then calls s m else if kind == 3 then metas s else if kind == 2 then markers s else []

-- the event of this name whose fields these are
unfoldable pub read_event : Style → (minor kind : ℕ) (name : List ℕ) → Left → Option Event
read_event s m kind name left = by_name (rows_of s m kind) name left
