-- The check table: for each event its checks, in the order in which they are made.
use Rattle.std.specs.Prelude.{ℕ, ◌+◌, ◌*◌, ◌%◌, ◌==◌, nat_le, Bool, not, ◌&&◌, ◌||◌, if◌then◌else◌, List, [], ◌∷◌, ◌++◌, map, flat_map, length, is_some}
use Rattle.gfx_types.specs.Names.{format_of}
use Rattle.gfx_types.specs.declared.names.Fault.TheVariants.{NotLive, BadValue, CommandState, LimitReached}
use Rattle.gfx_types.specs.declared.names.Kind.{Kind}
use Rattle.gfx_types.specs.declared.names.Kind.TheVariants as kind
use Rattle.gfx_types.specs.declared.lists.Barrier.{Barrier}
use Rattle.gfx_types.specs.declared.lists.BufferRegion.{BufferRegion}
use Rattle.gfx_types.specs.declared.lists.ImageRegion.{ImageRegion}
use Rattle.gfx_types.specs.declared.lists.MixedRegion.{MixedRegion}
use Rattle.gfx_types.specs.declared.lists.Submit.{Submit}
use Rattle.gfx_model.specs.Events.{Event}
use Rattle.gfx_model.specs.Spelling.{spelling, id_of}
use Rattle.gfx_model.specs.Limits.{max_frame, max_list_length, max_extent, max_swapchain_images, max_regions, max_barriers, max_update, max_submits, max_semaphores, max_submit_buffers, max_presents, bind_alignment}
use Rattle.gfx_model.specs.Questions.{image_size}
use Rattle.gfx_model.specs.Checks.{Check, turns_of, is_among, is_distinct}
use Rattle.gfx_model.specs.Checks.Turn.{wait}
use Rattle.gfx_model.specs.Checks.Check.{must, outside, inside, at_start, ends_frame, live, of, near, new, room, room_for, childless, childless_but_queue, bare_surface, free_surface, same_instance, the_queue, the_images, begins_in, ends_in, rests_in, unmapped, is_mapped, unbound, usable, may_use, recording, not_recording, may_begin, may_reset, fits, same_texel, uint_format, texel_divides, area_in, rows_in, tells_all, tells_some, unsignalled, in_turn, index_in, is_acquired, not_acquired, presentable, all_acquired, frame_room, may_fill, fill_in, image_bytes, one_each}

-- VK_WHOLE_SIZE
abbrev pub whole : ℕ
whole = 18446744073709551615

-- UNDEFINED, GENERAL, TRANSFER_SRC_OPTIMAL, TRANSFER_DST_OPTIMAL, PRESENT_SRC_KHR
abbrev pub is_layout : ℕ → Bool
is_layout l = is_among l (0 ∷ 1 ∷ 6 ∷ 7 ∷ 1000001002 ∷ [])

-- d divides n
abbrev pub divides : ℕ → ℕ → Bool
divides d n = n % d == 0

-- n is at least 1
abbrev pub is_positive : ℕ → Bool
is_positive n = nat_le 1 n

-- 15 unless the condition holds
abbrev pub value : Bool → Check
value = must BadValue

-- 28 unless the condition holds
abbrev pub limit : Bool → Check
limit = must LimitReached

-- n..m items: 15 if fewer, 28 if more
abbrev pub between : {X : Type 0} → ℕ → ℕ → List X → List Check
between n m xs = value (nat_le n (length xs)) ∷ limit (nat_le (length xs) m) ∷ []

-- a new object made of a live parent
abbrev pub made : Kind → ℕ → ℕ → List Check
made k parent x = live k parent ∷ new [] x ∷ []

-- a live object of a live device
abbrev pub of_device : Kind → ℕ → ℕ → List Check
of_device k device x = live kind.Device device ∷ live k x ∷ of x device ∷ []

-- the ids are new one after another
abbrev pub new_each : List ℕ → List ℕ → List Check
new_each earlier [] = []
new_each earlier (x ∷ xs) = new earlier x ∷ new_each (x ∷ earlier) xs

-- 11 too for one that occurs twice
abbrev pub live_once : Kind → List ℕ → List ℕ → List Check
live_once k earlier [] = []
live_once k earlier (x ∷ xs) = live k x ∷ must NotLive (not (is_among x earlier)) ∷ live_once k (x ∷ earlier) xs

-- a range that may reach to the end
abbrev pub span : ℕ → ℕ → ℕ → List Check
span x offset size = begins_in x offset ∷ (if size == whole then [] else ends_in x (offset + size) ∷ [])

-- a live usable resource of the command buffer's device
abbrev pub res : Kind → ℕ → ℕ → List Check
res k cb x = live k x ∷ near x cb ∷ usable x ∷ []

-- 22 unless it may be a source
abbrev pub src : ℕ → Check
src x = may_use x 1

-- 22 unless it may be a target
abbrev pub dst : ℕ → Check
dst x = may_use x 2

-- a command of a recording buffer, with room for it
abbrev pub recorded : ℕ → Event → List Check → List Check
recorded cb command checks =
    live kind.CommandBuffer cb ∷ recording cb ∷ checks ++ fits (length (spelling 1 command)) ∷ []

-- a source and a target that may be copied
abbrev pub copied : ℕ → Kind → ℕ → Kind → ℕ → List Check
copied cb j source k target = res j cb source ++ res k cb target ++ src source ∷ dst target ∷ []

-- known layouts, the later one not UNDEFINED
abbrev pub barrier_value : Barrier → Check
barrier_value b = value (is_layout b.before && is_layout b.after && not (b.after == 0))

-- the region lies inside both buffers
abbrev pub buffer_region_in : ℕ → ℕ → BufferRegion → List Check
buffer_region_in source target r = ends_in source (r.from + r.size) ∷ ends_in target (r.to + r.size) ∷ []

-- the region lies inside both images
abbrev pub image_region_in : ℕ → ℕ → ImageRegion → List Check
image_region_in source target r =
    area_in source r.from_x r.from_y r.width r.height ∷ area_in target r.to_x r.to_y r.width r.height ∷ []

-- 15 unless extents, strides and offset fit one another
abbrev pub mixed_region_value : ℕ → MixedRegion → List Check
mixed_region_value image r =
    value (is_positive r.width && is_positive r.height
    && (r.row == 0 || nat_le r.width r.row) && (r.rows == 0 || nat_le r.height r.rows))
    ∷ texel_divides image r.offset ∷ []

-- the region lies inside the image, and its rows inside the buffer
abbrev pub mixed_region_in : ℕ → ℕ → MixedRegion → List Check
mixed_region_in buffer image r =
    area_in image r.x r.y r.width r.height ∷ rows_in buffer image r.offset r.row r.width r.height ∷ []

-- the regions of a copy between a buffer and an image
abbrev pub mixed_regions : ℕ → ℕ → List MixedRegion → List Check
mixed_regions buffer image regions =
    between 1 max_regions regions ++ flat_map (mixed_region_value image) regions ++ flat_map (mixed_region_in buffer image) regions

-- all are live, and then all are near
abbrev pub near_each : Kind → ℕ → List ℕ → List Check
near_each k x ys = map (live k) ys ++ map (λ y. near y x) ys

-- the limits of a submit
abbrev pub submit_lengths : Submit → List Check
submit_lengths s = between 0 max_semaphores s.waits ++ between 0 max_submit_buffers s.cbs ++ between 0 max_semaphores s.signals

-- a submit's waits, command buffers and signals in turn
abbrev pub submit_near : ℕ → Submit → List Check
submit_near queue s =
    near_each kind.Semaphore queue s.waits ++ near_each kind.CommandBuffer queue s.cbs ++ near_each kind.Semaphore queue s.signals

-- what an acquire signals, where it isn't 0
abbrev pub to_signal : Kind → ℕ → ℕ → List Check
to_signal k device x = if x == 0 then [] else live k x ∷ of x device ∷ unsignalled x ∷ []

-- the answer of an acquire: 1 where all images are acquired, 0 with an image that isn't
abbrev pub acquire_answer : ℕ → ℕ → ℕ → List Check
acquire_answer swapchain index answer =
    if answer == 1 then value (index == 0) ∷ all_acquired swapchain ∷ []
    else index_in swapchain index ∷ not_acquired swapchain index ∷ []

-- the calls that may occur in the state section
abbrev pub stands_in_section : ℕ → Bool
stands_in_section n = is_among n (
    1 ∷ 3 ∷ 5 ∷ 7 ∷ 8 ∷ 10 ∷ 12 ∷ 14 ∷ 15 ∷ 17 ∷ 18 ∷ 21 ∷ 23 ∷ 24
    ∷ 26 ∷ 27 ∷ 28 ∷ 29 ∷ 30 ∷ 31 ∷ 32 ∷ 33 ∷ 34 ∷ 39 ∷ 44 ∷ 46 ∷ [])

-- where an event may occur: other calls outside the section, metadata 3 to 5 inside
unfoldable pub place_of : Event → List Check
place_of (Event.InitImage _ _ _) = inside ∷ []
place_of (Event.SetSwapchainState _ _) = inside ∷ []
place_of (Event.SetSemaphoreState _ _) = inside ∷ []
place_of (Event.FillMemory _ _ _) = []
place_of (Event.BeginSection _) = []
place_of (Event.EndSection _) = []
place_of e = if stands_in_section (id_of e) then [] else outside ∷ []

-- the command buffer of a command
abbrev pub cb_of : Event → ℕ
cb_of (Event.CmdPipelineBarrier cb barriers) = cb
cb_of (Event.CmdFillBuffer cb buffer offset size word) = cb
cb_of (Event.CmdUpdateBuffer cb buffer offset bytes) = cb
cb_of (Event.CmdCopyBuffer cb source target regions) = cb
cb_of (Event.CmdCopyImage cb source source_layout target target_layout regions) = cb
cb_of (Event.CmdCopyBufferToImage cb source target layout regions) = cb
cb_of (Event.CmdCopyImageToBuffer cb source layout target regions) = cb
cb_of (Event.CmdClearColorImage cb image layout c0 c1 c2 c3) = cb
cb_of _ = 0

-- the checks of a command's own, between those that its buffer is recording and that there is room
abbrev pub command_checks : Event → List Check
command_checks (Event.CmdPipelineBarrier cb barriers) =
    between 0 max_barriers barriers ++ flat_map (λ b. res kind.Image cb b.image) barriers ++ map barrier_value barriers
command_checks (Event.CmdFillBuffer cb buffer offset size word) =
    res kind.Buffer cb buffer
    ++ dst buffer ∷ value (divides 4 offset && (size == whole || nat_le 4 size && divides 4 size)) ∷ span buffer offset size
command_checks (Event.CmdUpdateBuffer cb buffer offset bytes) =
    res kind.Buffer cb buffer
    ++ dst buffer
    ∷ value (divides 4 offset && divides 4 (length bytes) && nat_le 4 (length bytes) && nat_le (length bytes) max_update)
    ∷ ends_in buffer (offset + length bytes) ∷ []
command_checks (Event.CmdCopyBuffer cb source target regions) =
    copied cb kind.Buffer source kind.Buffer target ++ between 1 max_regions regions
    ++ map (λ r. value (is_positive r.size)) regions ++ flat_map (buffer_region_in source target) regions
command_checks (Event.CmdCopyImage cb source source_layout target target_layout regions) =
    copied cb kind.Image source kind.Image target
    ++ value (is_among source_layout (6 ∷ 1 ∷ []) && is_among target_layout (7 ∷ 1 ∷ [])) ∷ same_texel source target
    ∷ between 1 max_regions regions
    ++ map (λ r. value (is_positive r.width && is_positive r.height)) regions ++ flat_map (image_region_in source target) regions
command_checks (Event.CmdCopyBufferToImage cb source target layout regions) =
    copied cb kind.Buffer source kind.Image target
    ++ value (is_among layout (7 ∷ 1 ∷ [])) ∷ mixed_regions source target regions
command_checks (Event.CmdCopyImageToBuffer cb source layout target regions) =
    copied cb kind.Image source kind.Buffer target
    ++ value (is_among layout (6 ∷ 1 ∷ [])) ∷ mixed_regions target source regions
command_checks (Event.CmdClearColorImage cb image layout c0 c1 c2 c3) =
    res kind.Image cb image ++ dst image ∷ value (is_among layout (7 ∷ 1 ∷ [])) ∷ uint_format image ∷ []
command_checks _ = []

-- the checks of an event's row; a command's own are between those of its buffer
unfoldable pub row_of : Event → List Check
row_of (Event.CreateInstance instance api) = new [] instance ∷ room 1 ∷ []
row_of (Event.DestroyInstance instance) = live kind.Instance instance ∷ childless instance ∷ []
row_of (Event.CreateHeadlessSurfaceEXT instance surface) = made kind.Instance instance surface ++ room 1 ∷ []
row_of (Event.DestroySurfaceKHR instance surface) =
    live kind.Instance instance ∷ live kind.Surface surface ∷ of surface instance ∷ bare_surface surface ∷ []
row_of (Event.CreateDevice instance device) = made kind.Instance instance device ++ room 1 ∷ []
row_of (Event.DestroyDevice device) = live kind.Device device ∷ childless_but_queue device ∷ []
row_of (Event.GetDeviceQueue device queue) = live kind.Device device ∷ the_queue device queue ∷ []
row_of (Event.AllocateMemory device memory size) =
    made kind.Device device memory ++ value (is_positive size) ∷ room 1 ∷ room_for size ∷ []
row_of (Event.FreeMemory device memory) = of_device kind.Memory device memory
row_of (Event.MapMemory device memory offset size) =
    of_device kind.Memory device memory ++ value (is_positive size) ∷ span memory offset size ++ unmapped memory ∷ []
row_of (Event.UnmapMemory device memory) = of_device kind.Memory device memory ++ is_mapped memory ∷ []
row_of (Event.CreateBuffer device buffer size usage) =
    made kind.Device device buffer ++ value (is_positive size && is_positive usage) ∷ room 1 ∷ []
row_of (Event.DestroyBuffer device buffer) = of_device kind.Buffer device buffer
row_of (Event.BindBufferMemory device buffer memory offset) =
    live kind.Device device ∷ live kind.Buffer buffer ∷ live kind.Memory memory ∷ of buffer device ∷ of memory device
    ∷ unbound buffer ∷ value (divides bind_alignment offset) ∷ rests_in buffer memory offset ∷ []
row_of (Event.CreateImage device image format width height usage) =
    made kind.Device device image
    ++ value (is_some (format_of format) && is_positive width && is_positive height && is_positive usage)
    ∷ limit (nat_le width max_extent && nat_le height max_extent) ∷ room 1 ∷ []
row_of (Event.DestroyImage device image) = of_device kind.Image device image
row_of (Event.BindImageMemory device image memory offset) =
    live kind.Device device ∷ live kind.Image image ∷ live kind.Memory memory ∷ of image device ∷ of memory device
    ∷ unbound image ∷ value (divides bind_alignment offset) ∷ rests_in image memory offset ∷ []
row_of (Event.CreateCommandPool device pool flags) = made kind.Device device pool ++ value (nat_le flags 3) ∷ room 1 ∷ []
row_of (Event.DestroyCommandPool device pool) = of_device kind.Pool device pool
row_of (Event.ResetCommandPool device pool) = of_device kind.Pool device pool
row_of (Event.AllocateCommandBuffers device pool buffers) =
    of_device kind.Pool device pool ++ between 1 max_list_length buffers ++ new_each [] buffers ++ room (length buffers) ∷ []
row_of (Event.FreeCommandBuffers device pool buffers) =
    of_device kind.Pool device pool ++ between 1 max_list_length buffers ++ live_once kind.CommandBuffer [] buffers
    ++ map (λ cb. of cb pool) buffers
row_of (Event.BeginCommandBuffer cb flags) =
    live kind.CommandBuffer cb ∷ value (is_among flags (0 ∷ 1 ∷ 4 ∷ 5 ∷ [])) ∷ not_recording cb ∷ may_begin cb ∷ []
row_of (Event.EndCommandBuffer cb) = live kind.CommandBuffer cb ∷ recording cb ∷ []
row_of (Event.ResetCommandBuffer cb) = live kind.CommandBuffer cb ∷ may_reset cb ∷ []
row_of (Event.CreateFence device fence flags) = made kind.Device device fence ++ value (nat_le flags 1) ∷ room 1 ∷ []
row_of (Event.DestroyFence device fence) = of_device kind.Fence device fence
row_of (Event.ResetFences device fences) =
    live kind.Device device ∷ between 1 max_list_length fences ++ map (live kind.Fence) fences ++ map (λ f. of f device) fences
row_of (Event.WaitForFences device fences wait_all answer) =
    live kind.Device device ∷ between 1 max_list_length fences ++ map (live kind.Fence) fences ++ map (λ f. of f device) fences
    ++ value (nat_le wait_all 1 && is_among answer (0 ∷ 2 ∷ []))
    ∷ (if wait_all == 1 then tells_all (answer == 0) fences else tells_some (answer == 0) fences) ∷ []
row_of (Event.GetFenceStatus device fence answer) =
    of_device kind.Fence device fence ++ value (nat_le answer 1) ∷ tells_all (answer == 0) (fence ∷ []) ∷ []
row_of (Event.CreateSemaphore device semaphore) = made kind.Device device semaphore ++ room 1 ∷ []
row_of (Event.DestroySemaphore device semaphore) = of_device kind.Semaphore device semaphore
row_of (Event.QueueSubmit queue submits fence) =
    live kind.Queue queue ∷ between 0 max_submits submits ++ flat_map submit_lengths submits
    ++ flat_map (submit_near queue) submits
    ++ (if fence == 0 then [] else live kind.Fence fence ∷ near fence queue ∷ [])
    ++ must CommandState (is_distinct (flat_map (λ s. s.cbs) submits)) ∷ in_turn (turns_of submits fence) ∷ []
row_of (Event.QueueWaitIdle queue) = live kind.Queue queue ∷ []
row_of (Event.DeviceWaitIdle device) = live kind.Device device ∷ []
row_of (Event.CreateSwapchainKHR device swapchain surface images format width height usage) =
    live kind.Device device ∷ live kind.Surface surface ∷ same_instance device surface ∷ new [] swapchain ∷ free_surface surface
    ∷ value (is_positive images && is_positive width && is_positive height && is_positive usage && is_some (format_of format))
    ∷ limit (nat_le images max_swapchain_images && nat_le width max_extent && nat_le height max_extent)
    ∷ room 1 ∷ room_for (images * image_size format width height) ∷ []
row_of (Event.DestroySwapchainKHR device swapchain) = of_device kind.Swapchain device swapchain
row_of (Event.GetSwapchainImagesKHR device swapchain images) =
    of_device kind.Swapchain device swapchain ++ the_images swapchain images ∷ []
row_of (Event.AcquireNextImageKHR device swapchain semaphore fence index answer) =
    of_device kind.Swapchain device swapchain ++ value (not (semaphore == 0) || not (fence == 0))
    ∷ to_signal kind.Semaphore device semaphore ++ to_signal kind.Fence device fence
    ++ value (nat_le answer 1) ∷ acquire_answer swapchain index answer
row_of (Event.QueuePresentKHR queue waits presents) =
    live kind.Queue queue ∷ between 0 max_semaphores waits ++ near_each kind.Semaphore queue waits
    ++ between 1 max_presents presents ++ near_each kind.Swapchain queue (map (λ p. p.swapchain) presents)
    ++ value (is_distinct (map (λ p. p.swapchain) presents))
    ∷ map (λ p. index_in p.swapchain p.index) presents
    ++ map (λ p. is_acquired p.swapchain p.index) presents
    ++ map (λ p. presentable p.swapchain p.index) presents
    ++ in_turn (map wait waits) ∷ frame_room ∷ []
row_of (Event.FillMemory memory offset bytes) =
    live kind.Memory memory ∷ value (is_positive (length bytes)) ∷ may_fill memory ∷ fill_in memory offset (length bytes) ∷ []
row_of (Event.InitImage image layout bytes) =
    live kind.Image image ∷ usable image ∷ value (is_layout layout) ∷ image_bytes image (length bytes) ∷ []
row_of (Event.SetSwapchainState swapchain acquired) =
    live kind.Swapchain swapchain ∷ one_each swapchain (length acquired) ∷ map (λ a. value (nat_le a 1)) acquired
row_of (Event.SetSemaphoreState semaphore signalled) = live kind.Semaphore semaphore ∷ value (nat_le signalled 1) ∷ []
row_of (Event.BeginSection frame) = at_start ∷ value (is_positive frame && nat_le frame max_frame) ∷ []
row_of (Event.EndSection frame) = inside ∷ ends_frame frame ∷ []
row_of command = recorded (cb_of command) command (command_checks command)

-- all checks of an event
abbrev pub checks_of : Event → List Check
checks_of e = place_of e ++ row_of e
