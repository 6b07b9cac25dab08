-- The ids that events name and create, and events with other ids.
use Rattle.std.specs.Prelude.{ℕ, List, [], ◌∷◌, ◌++◌, map, flat_map}
use Rattle.gfx_types.specs.declared.lists.Barrier.{Barrier}
use Rattle.gfx_types.specs.declared.lists.Present.{Present}
use Rattle.gfx_types.specs.declared.lists.Submit.{Submit}
use Rattle.gfx_model.specs.Events.{Event}
use Rattle.gfx_model.specs.Fields.{Atom, Value, atoms_of, named_fields}
use Rattle.gfx_model.specs.Fields.Atom.{an_id}
use Rattle.gfx_model.specs.Fields.Value.{names, makes, maybe, names_each, makes_each, records, submitted}

-- the id in a record
abbrev pub atom_ids : Atom → List ℕ
atom_ids (an_id n) = n ∷ []
atom_ids _ = []

-- the ids that a value names; 0 may mean none
abbrev pub named_by : Value → List ℕ
named_by (names n) = n ∷ []
named_by (maybe n) = n ∷ []
named_by (names_each xs) = xs
named_by (records rs) = flat_map (flat_map atom_ids) (atoms_of rs)
named_by (submitted ss) = flat_map (λ s. s.waits ++ s.cbs ++ s.signals) ss
named_by _ = []

-- the ids that a value creates
abbrev pub made_by : Value → List ℕ
made_by (makes n) = n ∷ []
made_by (makes_each xs) = xs
made_by _ = []

-- the ids that an event names, in the order of its fields
unfoldable pub uses_of : ℕ → Event → List ℕ
uses_of m e = flat_map (λ f. named_by f.value) (named_fields m e)

-- the ids that an event creates, in the order of its fields
unfoldable pub defines_of : ℕ → Event → List ℕ
defines_of m e = flat_map (λ f. made_by f.value) (named_fields m e)

-- records with other ids
abbrev pub barrier_ids : (ℕ → ℕ) → Barrier → Barrier
barrier_ids f b = record { image = f b.image; before = b.before; after = b.after }

-- a submit with other ids
abbrev pub submit_ids : (ℕ → ℕ) → Submit → Submit
submit_ids f s = record { waits = map f s.waits; cbs = map f s.cbs; signals = map f s.signals }

-- a present with another swapchain
abbrev pub present_ids : (ℕ → ℕ) → Present → Present
present_ids f p = record { swapchain = f p.swapchain; index = p.index }

-- the event with other ids
unfoldable pub map_ids : (ℕ → ℕ) → Event → Event
map_ids f (Event.CreateInstance instance api) = Event.CreateInstance (f instance) api
map_ids f (Event.DestroyInstance instance) = Event.DestroyInstance (f instance)
map_ids f (Event.CreateHeadlessSurfaceEXT instance surface) = Event.CreateHeadlessSurfaceEXT (f instance) (f surface)
map_ids f (Event.DestroySurfaceKHR instance surface) = Event.DestroySurfaceKHR (f instance) (f surface)
map_ids f (Event.CreateDevice instance device) = Event.CreateDevice (f instance) (f device)
map_ids f (Event.DestroyDevice device) = Event.DestroyDevice (f device)
map_ids f (Event.GetDeviceQueue device queue) = Event.GetDeviceQueue (f device) (f queue)
map_ids f (Event.AllocateMemory device memory size) = Event.AllocateMemory (f device) (f memory) size
map_ids f (Event.FreeMemory device memory) = Event.FreeMemory (f device) (f memory)
map_ids f (Event.MapMemory device memory offset size) = Event.MapMemory (f device) (f memory) offset size
map_ids f (Event.UnmapMemory device memory) = Event.UnmapMemory (f device) (f memory)
map_ids f (Event.CreateBuffer device buffer size usage) = Event.CreateBuffer (f device) (f buffer) size usage
map_ids f (Event.DestroyBuffer device buffer) = Event.DestroyBuffer (f device) (f buffer)
map_ids f (Event.BindBufferMemory device buffer memory offset) =
    Event.BindBufferMemory (f device) (f buffer) (f memory) offset
map_ids f (Event.CreateImage device image format width height usage) =
    Event.CreateImage (f device) (f image) format width height usage
map_ids f (Event.DestroyImage device image) = Event.DestroyImage (f device) (f image)
map_ids f (Event.BindImageMemory device image memory offset) =
    Event.BindImageMemory (f device) (f image) (f memory) offset
map_ids f (Event.CreateCommandPool device pool flags) = Event.CreateCommandPool (f device) (f pool) flags
map_ids f (Event.DestroyCommandPool device pool) = Event.DestroyCommandPool (f device) (f pool)
map_ids f (Event.ResetCommandPool device pool) = Event.ResetCommandPool (f device) (f pool)
map_ids f (Event.AllocateCommandBuffers device pool buffers) =
    Event.AllocateCommandBuffers (f device) (f pool) (map f buffers)
map_ids f (Event.FreeCommandBuffers device pool buffers) = Event.FreeCommandBuffers (f device) (f pool) (map f buffers)
map_ids f (Event.BeginCommandBuffer cb flags) = Event.BeginCommandBuffer (f cb) flags
map_ids f (Event.EndCommandBuffer cb) = Event.EndCommandBuffer (f cb)
map_ids f (Event.ResetCommandBuffer cb) = Event.ResetCommandBuffer (f cb)
map_ids f (Event.CmdPipelineBarrier cb barriers) = Event.CmdPipelineBarrier (f cb) (map (barrier_ids f) barriers)
map_ids f (Event.CmdFillBuffer cb buffer offset size word) = Event.CmdFillBuffer (f cb) (f buffer) offset size word
map_ids f (Event.CmdUpdateBuffer cb buffer offset bytes) = Event.CmdUpdateBuffer (f cb) (f buffer) offset bytes
map_ids f (Event.CmdCopyBuffer cb source target regions) = Event.CmdCopyBuffer (f cb) (f source) (f target) regions
map_ids f (Event.CmdCopyImage cb source source_layout target target_layout regions) =
    Event.CmdCopyImage (f cb) (f source) source_layout (f target) target_layout regions
map_ids f (Event.CmdCopyBufferToImage cb source target layout regions) =
    Event.CmdCopyBufferToImage (f cb) (f source) (f target) layout regions
map_ids f (Event.CmdCopyImageToBuffer cb source layout target regions) =
    Event.CmdCopyImageToBuffer (f cb) (f source) layout (f target) regions
map_ids f (Event.CmdClearColorImage cb image layout c0 c1 c2 c3) =
    Event.CmdClearColorImage (f cb) (f image) layout c0 c1 c2 c3
map_ids f (Event.CreateFence device fence flags) = Event.CreateFence (f device) (f fence) flags
map_ids f (Event.DestroyFence device fence) = Event.DestroyFence (f device) (f fence)
map_ids f (Event.ResetFences device fences) = Event.ResetFences (f device) (map f fences)
map_ids f (Event.WaitForFences device fences wait_all answer) =
    Event.WaitForFences (f device) (map f fences) wait_all answer
map_ids f (Event.GetFenceStatus device fence answer) = Event.GetFenceStatus (f device) (f fence) answer
map_ids f (Event.CreateSemaphore device semaphore) = Event.CreateSemaphore (f device) (f semaphore)
map_ids f (Event.DestroySemaphore device semaphore) = Event.DestroySemaphore (f device) (f semaphore)
map_ids f (Event.QueueSubmit queue submits fence) = Event.QueueSubmit (f queue) (map (submit_ids f) submits) (f fence)
map_ids f (Event.QueueWaitIdle queue) = Event.QueueWaitIdle (f queue)
map_ids f (Event.DeviceWaitIdle device) = Event.DeviceWaitIdle (f device)
map_ids f (Event.CreateSwapchainKHR device swapchain surface images format width height usage) =
    Event.CreateSwapchainKHR (f device) (f swapchain) (f surface) images format width height usage
map_ids f (Event.DestroySwapchainKHR device swapchain) = Event.DestroySwapchainKHR (f device) (f swapchain)
map_ids f (Event.GetSwapchainImagesKHR device swapchain images) =
    Event.GetSwapchainImagesKHR (f device) (f swapchain) (map f images)
map_ids f (Event.AcquireNextImageKHR device swapchain semaphore fence index answer) =
    Event.AcquireNextImageKHR (f device) (f swapchain) (f semaphore) (f fence) index answer
map_ids f (Event.QueuePresentKHR queue waits presents) =
    Event.QueuePresentKHR (f queue) (map f waits) (map (present_ids f) presents)
map_ids f (Event.FillMemory memory offset bytes) = Event.FillMemory (f memory) offset bytes
map_ids f (Event.InitImage image layout bytes) = Event.InitImage (f image) layout bytes
map_ids f (Event.SetSwapchainState swapchain acquired) = Event.SetSwapchainState (f swapchain) acquired
map_ids f (Event.SetSemaphoreState semaphore signalled) = Event.SetSemaphoreState (f semaphore) signalled
map_ids f (Event.BeginSection frame) = Event.BeginSection frame
map_ids f (Event.EndSection frame) = Event.EndSection frame
