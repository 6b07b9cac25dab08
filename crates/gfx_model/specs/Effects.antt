-- The effect column of the check table: for each event the steps that it takes, in order.
use Rattle.std.specs.Prelude.{ℕ, ◌+◌, ◌*◌, ◌-◌, ◌/◌, ◌%◌, ◌==◌, if◌then◌else◌, List, [], ◌∷◌, ◌++◌, map, flat_map, Option, Some, None, is_some}
use Rattle.std.specs.List.{range_with_len}
use Rattle.std.specs.Option.{option_map_or}
use Rattle.gfx_types.specs.declared.lists.Barrier.{Barrier}
use Rattle.gfx_types.specs.declared.lists.BufferRegion.{BufferRegion}
use Rattle.gfx_types.specs.declared.lists.ImageRegion.{ImageRegion}
use Rattle.gfx_types.specs.declared.lists.MixedRegion.{MixedRegion}
use Rattle.gfx_types.specs.declared.op.Place.{Place}
use Rattle.gfx_types.specs.declared.op.Place.TheVariants as place
use Rattle.gfx_types.specs.declared.op.Op.{Op}
use Rattle.gfx_types.specs.declared.op.Op.TheVariants as op
use Rattle.gfx_model.specs.Events.{Event}
use Rattle.gfx_model.specs.Steps.{Step, Detail, Change}
use Rattle.gfx_model.specs.Steps.Detail.{an_instance, a_surface, a_device, a_queue, a_memory, a_buffer, an_image, a_pool, a_command_buffer, a_fence, a_semaphore, a_swapchain}
use Rattle.gfx_model.specs.Steps.Change.{put, fill, copy, set_layout}
use Rattle.gfx_model.specs.Steps.Step.{taken, begins_section, ends_section, creates, ends, binds, maps, unmaps, begins, records, finishes, resets, resets_pool, executed, signals, unsignals, acquires, gives_back, changes, presents}
use Rattle.gfx_model.specs.Views.{View, Window, window, size_of, format_at, width_of, height_of, texel, usage_in, queue_of, fetched}
use Rattle.gfx_model.specs.Checks.{Turn, turns_of, row_texels}
use Rattle.gfx_model.specs.Checks.Turn.{wait, execute, signal}
use Rattle.gfx_model.specs.Table.{whole}

-- ---- what commands do

-- the rows of a copy in order, each one step further on both sides
abbrev pub rows_copied : Place → ℕ → ℕ → Place → ℕ → ℕ → ℕ → ℕ → List Change
rows_copied to to_offset to_step source source_offset source_step length rows =
    map (λ k. copy to (to_offset + k * to_step) source (source_offset + k * source_step) length) (range_with_len 0 rows)

-- changes in the windows of usable resources
abbrev pub inside_of : Option Window → (Window → List Change) → List Change
inside_of w f = option_map_or f w []

-- changes from one window to another
abbrev pub inside_both : Option Window → Option Window → (Window → Window → List Change) → List Change
inside_both s t f = inside_of s (λ a. inside_of t (f a))

-- where a texel is in the window of an image
abbrev pub texel_at : View → ℕ → ℕ → ℕ → ℕ
texel_at v image x y = (y * width_of v image + x) * texel v image

-- from one row of an image to the next
abbrev pub image_step : View → ℕ → ℕ
image_step v image = width_of v image * texel v image

-- the size of a fill; WHOLE_SIZE is the rest of the buffer, rounded down to a multiple of 4
abbrev pub fill_size : ℕ → ℕ → ℕ → ℕ
fill_size buffer_size offset size = if size == whole then (buffer_size - offset) / 4 * 4 else size

-- the low eight bits
abbrev pub low_byte : ℕ → ℕ
low_byte c = c % 256

-- the word of a clear
abbrev pub clear_word : ℕ → ℕ → ℕ → ℕ → ℕ → ℕ
clear_word format c0 c1 c2 c3 =
    if format == 13 then low_byte c0 * 16843009
    else (if format == 41 then low_byte c0 + 256 * low_byte c1 + 65536 * low_byte c2 + 16777216 * low_byte c3 else c0)

-- a barrier sets a layout
abbrev pub barrier_change : Barrier → Change
barrier_change b = set_layout b.image b.after

-- a region between buffers is one row
abbrev pub buffer_copy : Window → Window → BufferRegion → Change
buffer_copy s t r = copy t.place (t.offset + r.to) s.place (s.offset + r.from) r.size

-- a region between images, row by row
abbrev pub image_copy : View → ℕ → ℕ → Window → Window → ImageRegion → List Change
image_copy v source target s t r =
    rows_copied t.place (t.offset + texel_at v target r.to_x r.to_y) (image_step v target)
    s.place (s.offset + texel_at v source r.from_x r.from_y) (image_step v source)
    (r.width * texel v source) r.height

-- a region from a buffer to an image, row by row
abbrev pub upload : View → ℕ → Window → Window → MixedRegion → List Change
upload v image buffer_window image_window r =
    rows_copied image_window.place (image_window.offset + texel_at v image r.x r.y) (image_step v image)
    buffer_window.place (buffer_window.offset + r.offset) (row_texels r.row r.width * texel v image)
    (r.width * texel v image) r.height

-- a region from an image to a buffer, row by row
abbrev pub download : View → ℕ → Window → Window → MixedRegion → List Change
download v image image_window buffer_window r =
    rows_copied buffer_window.place (buffer_window.offset + r.offset) (row_texels r.row r.width * texel v image)
    image_window.place (image_window.offset + texel_at v image r.x r.y) (image_step v image)
    (r.width * texel v image) r.height

-- what a command does, in order
unfoldable pub changes_of_command : View → Event → List Change
changes_of_command v (Event.CmdPipelineBarrier cb barriers) = map barrier_change barriers
changes_of_command v (Event.CmdFillBuffer cb buffer offset size word) =
    inside_of (window v buffer) (λ w. fill w.place (w.offset + offset) (fill_size (size_of v buffer) offset size) word ∷ [])
changes_of_command v (Event.CmdUpdateBuffer cb buffer offset bytes) =
    inside_of (window v buffer) (λ w. put w.place (w.offset + offset) bytes ∷ [])
changes_of_command v (Event.CmdCopyBuffer cb source target regions) =
    inside_both (window v source) (window v target) (λ s t. map (buffer_copy s t) regions)
changes_of_command v (Event.CmdCopyImage cb source source_layout target target_layout regions) =
    inside_both (window v source) (window v target) (λ s t. flat_map (image_copy v source target s t) regions)
changes_of_command v (Event.CmdCopyBufferToImage cb source target layout regions) =
    inside_both (window v source) (window v target) (λ s t. flat_map (upload v target s t) regions)
changes_of_command v (Event.CmdCopyImageToBuffer cb source layout target regions) =
    inside_both (window v source) (window v target) (λ s t. flat_map (download v source s t) regions)
changes_of_command v (Event.CmdClearColorImage cb image layout c0 c1 c2 c3) =
    inside_of (window v image) (λ w. fill w.place w.offset w.length (clear_word (format_at v image) c0 c1 c2 c3) ∷ [])
changes_of_command v _ = []

-- the changes of a buffer's commands
abbrev pub changes_of_buffer : View → ℕ → List Change
changes_of_buffer v cb = flat_map (changes_of_command v) (v.buffer cb).commands

-- the changes of an operation of the device; `given` is the bytes of the effect itself
abbrev pub changes_of_op : List ℕ → Op → List Change
changes_of_op given (op.Put place offset bytes) = put place offset bytes ∷ []
changes_of_op given (op.PutGiven place offset) = put place offset given ∷ []
changes_of_op given (op.Fill place offset length word) = fill place offset length word ∷ []
changes_of_op given (op.Copy to to_offset to_step source source_offset source_step length rows) =
    rows_copied to to_offset to_step source source_offset source_step length rows
changes_of_op given (op.SetLayout image layout) = set_layout image layout ∷ []

-- ---- the effects

-- a wait takes the signal, an execution does its commands, a signal gives one
abbrev pub steps_of_turn : View → Turn → List Step
steps_of_turn v (wait s) = unsignals s ∷ []
steps_of_turn v (execute cb) = map changes (changes_of_buffer v cb) ++ executed cb ∷ []
steps_of_turn v (signal s) = signals s ∷ []

-- the images of a swapchain get their ids by index
abbrev pub fetches : View → ℕ → ℕ → List ℕ → List Step
fetches v swapchain k [] = []
fetches v swapchain k (id ∷ ids) =
    creates id swapchain (an_image (format_at v swapchain) (width_of v swapchain) (height_of v swapchain) (usage_in v swapchain) (Some k))
    ∷ fetches v swapchain (k + 1) ids

-- images that were fetched before are not fetched again
abbrev pub first_fetch : List ℕ → List Step → List Step
first_fetch [] steps = steps
first_fetch (_ ∷ _) steps = []

-- a signal, where the id is not 0
abbrev pub signals_any : ℕ → List Step
signals_any x = if x == 0 then [] else signals x ∷ []

-- the acquired marks of a swapchain from an index on
abbrev pub marks : ℕ → ℕ → List ℕ → List Step
marks swapchain k [] = []
marks swapchain k (a ∷ as') = (if a == 1 then acquires swapchain k else gives_back swapchain k) ∷ marks swapchain (k + 1) as'

-- the bytes of a swapchain image
abbrev pub image_bytes_put : Detail → ℕ → List ℕ → List Step
image_bytes_put (an_image _ _ _ _ (Some index)) image bytes = changes (put (place.Image image) 0 bytes) ∷ []
image_bytes_put _ image bytes = []

-- the steps of an event's row
unfoldable pub effect_of : View → Event → List Step
effect_of v (Event.CreateInstance instance api) = creates instance 0 (an_instance api) ∷ []
effect_of v (Event.DestroyInstance instance) = ends instance ∷ []
effect_of v (Event.CreateHeadlessSurfaceEXT instance surface) = creates surface instance a_surface ∷ []
effect_of v (Event.DestroySurfaceKHR instance surface) = ends surface ∷ []
effect_of v (Event.CreateDevice instance device) = creates device instance a_device ∷ []
effect_of v (Event.DestroyDevice device) = ends device ∷ []
effect_of v (Event.GetDeviceQueue device queue) = if is_some (queue_of v device) then [] else creates queue device a_queue ∷ []
effect_of v (Event.AllocateMemory device memory size) = creates memory device (a_memory size) ∷ []
effect_of v (Event.FreeMemory device memory) = ends memory ∷ []
effect_of v (Event.MapMemory device memory offset size) =
    maps memory offset (if size == whole then size_of v memory - offset else size) ∷ []
effect_of v (Event.UnmapMemory device memory) = unmaps memory ∷ []
effect_of v (Event.CreateBuffer device buffer size usage) = creates buffer device (a_buffer size usage) ∷ []
effect_of v (Event.DestroyBuffer device buffer) = ends buffer ∷ []
effect_of v (Event.BindBufferMemory device buffer memory offset) = binds buffer memory offset ∷ []
effect_of v (Event.CreateImage device image format width height usage) =
    creates image device (an_image format width height usage None) ∷ []
effect_of v (Event.DestroyImage device image) = ends image ∷ []
effect_of v (Event.BindImageMemory device image memory offset) = binds image memory offset ∷ []
effect_of v (Event.CreateCommandPool device pool flags) = creates pool device (a_pool flags) ∷ []
effect_of v (Event.DestroyCommandPool device pool) = ends pool ∷ []
effect_of v (Event.ResetCommandPool device pool) = resets_pool pool ∷ []
effect_of v (Event.AllocateCommandBuffers device pool buffers) = map (λ cb. creates cb pool a_command_buffer) buffers
effect_of v (Event.FreeCommandBuffers device pool buffers) = map ends buffers
effect_of v (Event.BeginCommandBuffer cb flags) = begins cb flags ∷ []
effect_of v (Event.EndCommandBuffer cb) = finishes cb ∷ []
effect_of v (Event.ResetCommandBuffer cb) = resets cb ∷ []
effect_of v (Event.CmdPipelineBarrier cb barriers) = records cb (Event.CmdPipelineBarrier cb barriers) ∷ []
effect_of v (Event.CmdFillBuffer cb buffer offset size word) = records cb (Event.CmdFillBuffer cb buffer offset size word) ∷ []
effect_of v (Event.CmdUpdateBuffer cb buffer offset bytes) = records cb (Event.CmdUpdateBuffer cb buffer offset bytes) ∷ []
effect_of v (Event.CmdCopyBuffer cb source target regions) = records cb (Event.CmdCopyBuffer cb source target regions) ∷ []
effect_of v (Event.CmdCopyImage cb source source_layout target target_layout regions) =
    records cb (Event.CmdCopyImage cb source source_layout target target_layout regions) ∷ []
effect_of v (Event.CmdCopyBufferToImage cb source target layout regions) =
    records cb (Event.CmdCopyBufferToImage cb source target layout regions) ∷ []
effect_of v (Event.CmdCopyImageToBuffer cb source layout target regions) =
    records cb (Event.CmdCopyImageToBuffer cb source layout target regions) ∷ []
effect_of v (Event.CmdClearColorImage cb image layout c0 c1 c2 c3) =
    records cb (Event.CmdClearColorImage cb image layout c0 c1 c2 c3) ∷ []
effect_of v (Event.CreateFence device fence flags) =
    creates fence device a_fence ∷ (if flags == 1 then signals fence ∷ [] else [])
effect_of v (Event.DestroyFence device fence) = ends fence ∷ []
effect_of v (Event.ResetFences device fences) = map unsignals fences
effect_of v (Event.WaitForFences device fences wait_all answer) = []
effect_of v (Event.GetFenceStatus device fence answer) = []
effect_of v (Event.CreateSemaphore device semaphore) = creates semaphore device a_semaphore ∷ []
effect_of v (Event.DestroySemaphore device semaphore) = ends semaphore ∷ []
effect_of v (Event.QueueSubmit queue submits fence) = flat_map (steps_of_turn v) (turns_of submits fence)
effect_of v (Event.QueueWaitIdle queue) = []
effect_of v (Event.DeviceWaitIdle device) = []
effect_of v (Event.CreateSwapchainKHR device swapchain surface images format width height usage) =
    creates swapchain device (a_swapchain surface images format width height usage) ∷ []
effect_of v (Event.DestroySwapchainKHR device swapchain) = ends swapchain ∷ []
effect_of v (Event.GetSwapchainImagesKHR device swapchain images) = first_fetch (fetched v swapchain) (fetches v swapchain 0 images)
effect_of v (Event.AcquireNextImageKHR device swapchain semaphore fence index answer) =
    if answer == 1 then [] else acquires swapchain index ∷ signals_any semaphore ++ signals_any fence
effect_of v (Event.QueuePresentKHR queue waits images) =
    flat_map (steps_of_turn v) (map wait waits) ++ map (λ p. gives_back p.swapchain p.index) images ++ presents ∷ []
effect_of v (Event.FillMemory memory offset bytes) = changes (put (place.Memory memory) offset bytes) ∷ []
effect_of v (Event.InitImage image layout bytes) =
    changes (set_layout image layout) ∷ option_map_or (λ o. image_bytes_put o.detail image bytes) (v.live image) []
effect_of v (Event.SetSwapchainState swapchain acquired) = marks swapchain 0 acquired
effect_of v (Event.SetSemaphoreState semaphore signalled) =
    (if signalled == 1 then signals semaphore else unsignals semaphore) ∷ []
effect_of v (Event.BeginSection frame) = begins_section frame ∷ []
effect_of v (Event.EndSection frame) = ends_section ∷ []

-- all steps of an event: that it is taken, and its effect
abbrev pub steps_of : View → Event → List Step
steps_of v e = taken ∷ effect_of v e
