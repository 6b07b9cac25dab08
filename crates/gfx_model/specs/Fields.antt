-- The one table of the fields of events: their names and values, in the order in which they are spelled.
use Rattle.std.specs.Prelude.{ℕ, ◌==◌, Bool, true, false, if◌then◌else◌, List, [], ◌∷◌, map, codes}
use Prim.Native.String.{String}
use Rattle.gfx_types.specs.declared.lists.Barrier.{Barrier}
use Rattle.gfx_types.specs.declared.lists.BufferRegion.{BufferRegion}
use Rattle.gfx_types.specs.declared.lists.ImageRegion.{ImageRegion}
use Rattle.gfx_types.specs.declared.lists.MixedRegion.{MixedRegion}
use Rattle.gfx_types.specs.declared.lists.Present.{Present}
use Rattle.gfx_types.specs.declared.lists.Submit.{Submit}
use Rattle.gfx_model.specs.Events.{Event}

-- a value in a record: an id, a number of eight bytes, or one of four
pub data Atom : Type 0 where
  an_id a_wide a_short : ℕ → Atom

-- a list of records of one kind
pub data Records : Type 0 where
  barriers : List Barrier → Records
  buffer_regions : List BufferRegion → Records
  image_regions : List ImageRegion → Records
  mixed_regions : List MixedRegion → Records
  presents : List Present → Records

-- the value of a field: an id that the call names, makes, or may name; a number of eight bytes or of four; bytes;
-- a list of ids, of numbers, of records, or of submits
pub data Value : Type 0 where
  names makes maybe wide short : ℕ → Value
  raw names_each makes_each shorts : List ℕ → Value
  records : Records → Value
  submitted : List Submit → Value

-- a field: its name and its value
pub record Named : Type 0 where
  pub name : List ℕ
  pub value : Value

-- the values of a record, in order
abbrev pub barrier_atoms : Barrier → List Atom
barrier_atoms b = an_id b.image ∷ a_short b.before ∷ a_short b.after ∷ []

-- from, to, size
abbrev pub buffer_region_atoms : BufferRegion → List Atom
buffer_region_atoms r = a_wide r.from ∷ a_wide r.to ∷ a_wide r.size ∷ []

-- from_x, from_y, to_x, to_y, width, height
abbrev pub image_region_atoms : ImageRegion → List Atom
image_region_atoms r =
    a_short r.from_x ∷ a_short r.from_y ∷ a_short r.to_x ∷ a_short r.to_y ∷ a_short r.width ∷ a_short r.height ∷ []

-- offset, row, rows, x, y, width, height
abbrev pub mixed_region_atoms : MixedRegion → List Atom
mixed_region_atoms r =
    a_wide r.offset ∷ a_short r.row ∷ a_short r.rows ∷ a_short r.x ∷ a_short r.y ∷ a_short r.width ∷ a_short r.height ∷ []

-- swapchain, index
abbrev pub present_atoms : Present → List Atom
present_atoms p = an_id p.swapchain ∷ a_short p.index ∷ []

-- the values of each record
abbrev pub atoms_of : Records → List (List Atom)
atoms_of (barriers xs) = map barrier_atoms xs
atoms_of (buffer_regions xs) = map buffer_region_atoms xs
atoms_of (image_regions xs) = map image_region_atoms xs
atoms_of (mixed_regions xs) = map mixed_region_atoms xs
atoms_of (presents xs) = map present_atoms xs

-- a field of this name
abbrev pub field : String → Value → Named
field name value = record { name = codes name; value = value }

-- version 1 has the one present as two fields
abbrev pub one_present : List Present → List Named
one_present (p ∷ []) = field "swapchain" (names p.swapchain) ∷ field "index" (short p.index) ∷ []
one_present _ = []

-- the presents of a call: one field in version 2, and the fields of the one present in version 1
abbrev pub named_presents : ℕ → List Present → List Named
named_presents m ps = if m == 1 then one_present ps else field "presents" (records (presents ps)) ∷ []

-- the fields of an event in minor version m, with names and marks
abbrev pub named_fields : ℕ → Event → List Named
named_fields m (Event.CreateInstance instance api) =
    field "instance" (makes instance) ∷ field "api" (short api) ∷ []
named_fields m (Event.DestroyInstance instance) = field "instance" (names instance) ∷ []
named_fields m (Event.CreateHeadlessSurfaceEXT instance surface) =
    field "instance" (names instance) ∷ field "surface" (makes surface) ∷ []
named_fields m (Event.DestroySurfaceKHR instance surface) =
    field "instance" (names instance) ∷ field "surface" (names surface) ∷ []
named_fields m (Event.CreateDevice instance device) =
    field "instance" (names instance) ∷ field "device" (makes device) ∷ []
named_fields m (Event.DestroyDevice device) = field "device" (names device) ∷ []
named_fields m (Event.GetDeviceQueue device queue) =
    field "device" (names device) ∷ field "queue" (makes queue) ∷ []
named_fields m (Event.AllocateMemory device memory size) =
    field "device" (names device) ∷ field "memory" (makes memory) ∷ field "size" (wide size) ∷ []
named_fields m (Event.FreeMemory device memory) = field "device" (names device) ∷ field "memory" (names memory) ∷ []
named_fields m (Event.MapMemory device memory offset size) =
    field "device" (names device) ∷ field "memory" (names memory) ∷ field "offset" (wide offset)
    ∷ field "size" (wide size) ∷ []
named_fields m (Event.UnmapMemory device memory) =
    field "device" (names device) ∷ field "memory" (names memory) ∷ []
named_fields m (Event.CreateBuffer device buffer size usage) =
    field "device" (names device) ∷ field "buffer" (makes buffer) ∷ field "size" (wide size)
    ∷ field "usage" (short usage) ∷ []
named_fields m (Event.DestroyBuffer device buffer) =
    field "device" (names device) ∷ field "buffer" (names buffer) ∷ []
named_fields m (Event.BindBufferMemory device buffer memory offset) =
    field "device" (names device) ∷ field "buffer" (names buffer) ∷ field "memory" (names memory)
    ∷ field "offset" (wide offset) ∷ []
named_fields m (Event.CreateImage device image format width height usage) =
    field "device" (names device) ∷ field "image" (makes image) ∷ field "format" (short format)
    ∷ field "width" (short width) ∷ field "height" (short height) ∷ field "usage" (short usage) ∷ []
named_fields m (Event.DestroyImage device image) = field "device" (names device) ∷ field "image" (names image) ∷ []
named_fields m (Event.BindImageMemory device image memory offset) =
    field "device" (names device) ∷ field "image" (names image) ∷ field "memory" (names memory)
    ∷ field "offset" (wide offset) ∷ []
named_fields m (Event.CreateCommandPool device pool flags) =
    field "device" (names device) ∷ field "pool" (makes pool) ∷ field "flags" (short flags) ∷ []
named_fields m (Event.DestroyCommandPool device pool) =
    field "device" (names device) ∷ field "pool" (names pool) ∷ []
named_fields m (Event.ResetCommandPool device pool) = field "device" (names device) ∷ field "pool" (names pool) ∷ []
named_fields m (Event.AllocateCommandBuffers device pool buffers) =
    field "device" (names device) ∷ field "pool" (names pool) ∷ field "buffers" (makes_each buffers) ∷ []
named_fields m (Event.FreeCommandBuffers device pool buffers) =
    field "device" (names device) ∷ field "pool" (names pool) ∷ field "buffers" (names_each buffers) ∷ []
named_fields m (Event.BeginCommandBuffer cb flags) = field "cb" (names cb) ∷ field "flags" (short flags) ∷ []
named_fields m (Event.EndCommandBuffer cb) = field "cb" (names cb) ∷ []
named_fields m (Event.ResetCommandBuffer cb) = field "cb" (names cb) ∷ []
named_fields m (Event.CmdPipelineBarrier cb bs) =
    field "cb" (names cb) ∷ field "barriers" (records (barriers bs)) ∷ []
named_fields m (Event.CmdFillBuffer cb buffer offset size word) =
    field "cb" (names cb) ∷ field "buffer" (names buffer) ∷ field "offset" (wide offset)
    ∷ field "size" (wide size) ∷ field "word" (short word) ∷ []
named_fields m (Event.CmdUpdateBuffer cb buffer offset bytes) =
    field "cb" (names cb) ∷ field "buffer" (names buffer) ∷ field "offset" (wide offset)
    ∷ field "bytes" (raw bytes) ∷ []
named_fields m (Event.CmdCopyBuffer cb source target regions) =
    field "cb" (names cb) ∷ field "source" (names source) ∷ field "target" (names target)
    ∷ field "regions" (records (buffer_regions regions)) ∷ []
named_fields m (Event.CmdCopyImage cb source source_layout target target_layout regions) =
    field "cb" (names cb) ∷ field "source" (names source) ∷ field "source_layout" (short source_layout)
    ∷ field "target" (names target) ∷ field "target_layout" (short target_layout)
    ∷ field "regions" (records (image_regions regions)) ∷ []
named_fields m (Event.CmdCopyBufferToImage cb source target layout regions) =
    field "cb" (names cb) ∷ field "source" (names source) ∷ field "target" (names target)
    ∷ field "layout" (short layout) ∷ field "regions" (records (mixed_regions regions)) ∷ []
named_fields m (Event.CmdCopyImageToBuffer cb source layout target regions) =
    field "cb" (names cb) ∷ field "source" (names source) ∷ field "layout" (short layout)
    ∷ field "target" (names target) ∷ field "regions" (records (mixed_regions regions)) ∷ []
named_fields m (Event.CmdClearColorImage cb image layout c0 c1 c2 c3) =
    field "cb" (names cb) ∷ field "image" (names image) ∷ field "layout" (short layout)
    ∷ field "c0" (short c0) ∷ field "c1" (short c1) ∷ field "c2" (short c2) ∷ field "c3" (short c3) ∷ []
named_fields m (Event.CreateFence device fence flags) =
    field "device" (names device) ∷ field "fence" (makes fence) ∷ field "flags" (short flags) ∷ []
named_fields m (Event.DestroyFence device fence) = field "device" (names device) ∷ field "fence" (names fence) ∷ []
named_fields m (Event.ResetFences device fences) =
    field "device" (names device) ∷ field "fences" (names_each fences) ∷ []
named_fields m (Event.WaitForFences device fences wait_all answer) =
    field "device" (names device) ∷ field "fences" (names_each fences) ∷ field "wait_all" (short wait_all)
    ∷ field "answer" (short answer) ∷ []
named_fields m (Event.GetFenceStatus device fence answer) =
    field "device" (names device) ∷ field "fence" (names fence) ∷ field "answer" (short answer) ∷ []
named_fields m (Event.CreateSemaphore device semaphore) =
    field "device" (names device) ∷ field "semaphore" (makes semaphore) ∷ []
named_fields m (Event.DestroySemaphore device semaphore) =
    field "device" (names device) ∷ field "semaphore" (names semaphore) ∷ []
named_fields m (Event.QueueSubmit queue submits fence) =
    field "queue" (names queue) ∷ field "submits" (submitted submits) ∷ field "fence" (maybe fence) ∷ []
named_fields m (Event.QueueWaitIdle queue) = field "queue" (names queue) ∷ []
named_fields m (Event.DeviceWaitIdle device) = field "device" (names device) ∷ []
named_fields m (Event.CreateSwapchainKHR device swapchain surface images format width height usage) =
    field "device" (names device) ∷ field "swapchain" (makes swapchain) ∷ field "surface" (names surface)
    ∷ field "images" (short images) ∷ field "format" (short format) ∷ field "width" (short width)
    ∷ field "height" (short height) ∷ field "usage" (short usage) ∷ []
named_fields m (Event.DestroySwapchainKHR device swapchain) =
    field "device" (names device) ∷ field "swapchain" (names swapchain) ∷ []
named_fields m (Event.GetSwapchainImagesKHR device swapchain images) =
    field "device" (names device) ∷ field "swapchain" (names swapchain) ∷ field "images" (makes_each images)
    ∷ []
named_fields m (Event.AcquireNextImageKHR device swapchain semaphore fence index answer) =
    field "device" (names device) ∷ field "swapchain" (names swapchain) ∷ field "semaphore" (maybe semaphore)
    ∷ field "fence" (maybe fence) ∷ field "index" (short index) ∷ field "answer" (short answer) ∷ []
named_fields m (Event.QueuePresentKHR queue waits ps) =
    field "queue" (names queue) ∷ field "waits" (names_each waits) ∷ named_presents m ps
named_fields m (Event.FillMemory memory offset bytes) =
    field "memory" (names memory) ∷ field "offset" (wide offset) ∷ field "bytes" (raw bytes) ∷ []
named_fields m (Event.InitImage image layout bytes) =
    field "image" (names image) ∷ field "layout" (short layout) ∷ field "bytes" (raw bytes) ∷ []
named_fields m (Event.SetSwapchainState swapchain acquired) =
    field "swapchain" (names swapchain) ∷ field "acquired" (shorts acquired) ∷ []
named_fields m (Event.SetSemaphoreState semaphore signalled) =
    field "semaphore" (names semaphore) ∷ field "signalled" (short signalled) ∷ []
named_fields m (Event.BeginSection frame) = field "frame" (wide frame) ∷ []
named_fields m (Event.EndSection frame) = field "frame" (wide frame) ∷ []

-- the call creates the ids of the field
abbrev pub is_made : Value → Bool
is_made (makes n) = true
is_made (makes_each xs) = true
is_made _ = false
