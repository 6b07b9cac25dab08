-- The words of the check table. Each reads the answers to the questions, and nothing else.
use Rattle.std.specs.Prelude.{ℕ, ◌+◌, ◌*◌, ◌-◌, ◌%◌, ◌==◌, nat_lt, nat_le, Bool, true, false, not, ◌&&◌, ◌||◌, if◌then◌else◌, List, [], ◌∷◌, ◌++◌, map, flat_map, length, Option, Some, None, is_some, is_none}
use Rattle.std.specs.List.{list_any, list_all, range_with_len}
use Rattle.std.specs.Option.{option_map_or}
use Rattle.gfx_types.specs.declared.names.Fault.{Fault}
use Rattle.gfx_types.specs.declared.names.Fault.TheVariants.{StateOrder, NotLive, IdTaken, WrongParent, HasChildren, BadValue, OutOfRange, AlreadyBound, NotBound, MapState, PoolRule, CommandState, UsageMissing, LayoutDiffers, FormatDiffers, SignalState, SwapState, ResultDiffers, LimitReached}
use Rattle.gfx_types.specs.declared.names.Kind.{Kind}
use Rattle.gfx_types.specs.declared.lists.Submit.{Submit}
use Rattle.gfx_model.specs.Events.{Event}
use Rattle.gfx_model.specs.Events.Event.{CmdPipelineBarrier, CmdCopyImage, CmdCopyBufferToImage, CmdCopyImageToBuffer, CmdClearColorImage}
use Rattle.gfx_model.specs.Limits.{max_frame, max_live_objects, max_live_bytes, max_kept_commands, max_kept_bytes}
use Rattle.gfx_model.specs.Questions.{State, Range, has_bit}
use Rattle.gfx_model.specs.Steps.{Detail}
use Rattle.gfx_model.specs.Steps.Detail.{an_image}
use Rattle.gfx_model.specs.Views.{View, is_live, parent_of, device_of, size_of, usage_of, format_at, width_of, height_of, texel, images_in, pool_flags, is_usable, image_at, object_count, live_bytes, children, queue_of, has_swapchain, fetched, commands_kept, bytes_kept}

-- ---- the steps of a submit, in order

-- a wait for a semaphore, an execution of a command buffer, or a signal of a semaphore or fence
pub data Turn : Type 0 where
  wait execute signal : ℕ → Turn

-- the waits, executions and signals of a submit
abbrev pub turns_of_submit : Submit → List Turn
turns_of_submit s = map wait s.waits ++ map execute s.cbs ++ map signal s.signals

-- submit by submit, and then the fence where there is one
abbrev pub turns_of : List Submit → ℕ → List Turn
turns_of submits fence = flat_map turns_of_submit submits ++ (if fence == 0 then [] else signal fence ∷ [])

-- What a command asks of layouts: that an image has one, or may go from one to another.
pub data Layouts : Type 0 where
  stays : (image layout : ℕ) → Layouts
  goes : (image before after : ℕ) → Layouts

-- what a command asks of layouts, in order
unfoldable pub layouts_of : Event → List Layouts
layouts_of (CmdPipelineBarrier cb barriers) = map (λ b. goes b.image b.before b.after) barriers
layouts_of (CmdCopyImage cb source source_layout target target_layout regions) =
    stays source source_layout ∷ stays target target_layout ∷ []
layouts_of (CmdCopyBufferToImage cb source target layout regions) = stays target layout ∷ []
layouts_of (CmdCopyImageToBuffer cb source layout target regions) = stays source layout ∷ []
layouts_of (CmdClearColorImage cb image layout c0 c1 c2 c3) = stays image layout ∷ []
layouts_of _ = []

-- f, but for one answer
abbrev pub but : {X : Type 0} → ℕ → X → (ℕ → X) → ℕ → X
but i x f j = if i == j then x else f j

-- the layouts after these
abbrev pub layouts_after : (ℕ → ℕ) → List Layouts → ℕ → ℕ
layouts_after layout [] = layout
layouts_after layout (stays i l ∷ ls) = layouts_after layout ls
layouts_after layout (goes i before after ∷ ls) = layouts_after (but i after layout) ls

-- each image has the layout that is asked for, at its point
abbrev pub meets : (ℕ → ℕ) → List Layouts → Bool
meets layout [] = true
meets layout (stays i l ∷ ls) = layout i == l && meets layout ls
meets layout (goes i before after ∷ ls) = (before == 0 || before == layout i) && meets (but i after layout) ls

-- ---- the words

-- One check of a row. The number is the fault where the check is broken.
pub data Check : Type 0 where
  -- the fault unless a condition on the call's own fields holds
  must : Fault → Bool → Check
  -- 10 in the section; 10 outside it; 10 unless no effect was taken yet
  outside inside at_start : Check
  -- 15 unless the section began with this frame
  ends_frame : (frame : ℕ) → Check
  -- 11 unless x is a live object of kind k
  live : (k : Kind) (x : ℕ) → Check
  -- 13 unless the parent of x is p; 13 unless x and p belong to one device
  of near : (x p : ℕ) → Check
  -- 15 if x is 0; 12 if it was used before, or is earlier in this call
  new : (earlier : List ℕ) (x : ℕ) → Check
  -- 28 if n more objects would be too many; 28 if n more bytes would be
  room room_for : (n : ℕ) → Check
  -- 14 if x is a live parent; 14 if a child other than its queue is live
  childless childless_but_queue : (x : ℕ) → Check
  -- 14 if a live swapchain was created on the surface; 26 if one was
  bare_surface free_surface : (surface : ℕ) → Check
  -- 13 unless x and y have one parent
  same_instance : (x y : ℕ) → Check
  -- where the device has a queue: 27 unless it is this one; otherwise new and room
  the_queue : (device queue : ℕ) → Check
  -- where images are fetched: 27 unless they are these; otherwise 27 unless there are as many, new each, room
  the_images : (swapchain : ℕ) (images : List ℕ) → Check
  -- 16 unless the offset is below the size of x
  begins_in : (x offset : ℕ) → Check
  -- 16 unless the end is at most the size of x
  ends_in : (x end : ℕ) → Check
  -- 16 unless x, from the offset on, lies in the memory
  rests_in : (x memory offset : ℕ) → Check
  -- 19 if the memory is mapped; 19 unless it is
  unmapped is_mapped : (memory : ℕ) → Check
  -- 17 if the resource was ever bound; 18 unless it is usable
  unbound usable : (x : ℕ) → Check
  -- 22 unless the usage of x has this bit
  may_use : (x bit : ℕ) → Check
  -- 21 unless the buffer is recording; 21 if it is
  recording not_recording : (cb : ℕ) → Check
  -- 20 unless the buffer is initial or its pool lets it be reset; 20 unless its pool does
  may_begin may_reset : (cb : ℕ) → Check
  -- 28 if one command more, with so many bytes of fields, would be too much to keep
  fits : (bytes : ℕ) → Check
  -- 24 unless texels of both images have one size; 24 unless the format is a UINT format
  same_texel : (x y : ℕ) → Check
  uint_format : (image : ℕ) → Check
  -- 15 unless the texel size divides the offset
  texel_divides : (image offset : ℕ) → Check
  -- 16 unless the area lies in the image; 16 unless rows of its texels lie in the buffer
  area_in : (image x y width height : ℕ) → Check
  rows_in : (buffer image offset row width height : ℕ) → Check
  -- 27 unless it is so exactly where all are signalled; exactly where some are
  tells_all tells_some : (is_so : Bool) (xs : List ℕ) → Check
  -- 25 if x is signalled
  unsignalled : (x : ℕ) → Check
  -- 21, 23 and 25, turn by turn, each on what the turns before it leave
  in_turn : List Turn → Check
  -- 16 unless the swapchain has such an image; 26 unless it is acquired; 26 if it is; 23 unless its layout is PRESENT_SRC_KHR
  index_in is_acquired not_acquired presentable : (swapchain index : ℕ) → Check
  -- 27 unless all images are acquired
  all_acquired : (swapchain : ℕ) → Check
  -- 28 if the frame number would be too high
  frame_room : Check
  -- outside the section: 19 unless the memory is mapped
  may_fill : (memory : ℕ) → Check
  -- 16 unless the bytes lie in the mapped range, or in the section in the memory
  fill_in : (memory offset length : ℕ) → Check
  -- 15 unless a bound image gets no bytes, and one of a swapchain all of its own
  image_bytes : (image n : ℕ) → Check
  -- 15 unless there are as many as the swapchain has images
  one_each : (swapchain n : ℕ) → Check

-- the fault unless the test holds
abbrev pub unless : Bool → Fault → Option Fault
unless true f = None
unless false f = Some f

-- the first of two faults
abbrev pub first : Option Fault → Option Fault → Option Fault
first (Some f) g = Some f
first None g = g

-- x is in the list
abbrev pub is_among : ℕ → List ℕ → Bool
is_among x xs = list_any (λ y. y == x) xs

-- no number occurs twice
abbrev pub is_distinct : List ℕ → Bool
is_distinct [] = true
is_distinct (x ∷ xs) = not (is_among x xs) && is_distinct xs

-- two lists are one
abbrev pub same_list : List ℕ → List ℕ → Bool
same_list [] [] = true
same_list (x ∷ xs) (y ∷ ys) = x == y && same_list xs ys
same_list _ _ = false

-- two truth values are one
abbrev pub same_bool : Bool → Bool → Bool
same_bool true b = b
same_bool false b = not b

-- the three states that checks tell apart
abbrev pub is_recording : State → Bool
is_recording State.recording = true
is_recording _ = false

-- it may be submitted
abbrev pub is_executable : State → Bool
is_executable State.executable = true
is_executable _ = false

-- nothing was recorded since it was made or reset
abbrev pub is_initial : State → Bool
is_initial State.initial = true
is_initial _ = false

-- 15 if x is 0; 12 if x was used before, or is earlier in this call
abbrev pub new_fault : View → List ℕ → ℕ → Option Fault
new_fault v earlier x =
    first (unless (not (x == 0)) BadValue) (unless (not (v.used x) && not (is_among x earlier)) IdTaken)

-- 28 if n more objects would be too many
abbrev pub room_fault : View → ℕ → Option Fault
room_fault v n = unless (nat_le (object_count v + n) max_live_objects) LimitReached

-- the ids are new one after another
abbrev pub new_faults : View → List ℕ → List ℕ → Option Fault
new_faults v earlier [] = None
new_faults v earlier (x ∷ xs) = first (new_fault v earlier x) (new_faults v (x ∷ earlier) xs)

-- where the device has a queue, it is this one; otherwise the id is new, and there is room
abbrev pub queue_fault : View → ℕ → Option ℕ → Option Fault
queue_fault v queue (Some q) = unless (q == queue) ResultDiffers
queue_fault v queue None = first (new_fault v [] queue) (room_fault v 1)

-- where images are fetched, they are these; otherwise there are as many as the swapchain has, all new, and there is room
abbrev pub images_fault : View → ℕ → List ℕ → List ℕ → Option Fault
images_fault v n [] ids = first (unless (length ids == n) ResultDiffers) (first (new_faults v [] ids) (room_fault v (length ids)))
images_fault v n (i ∷ fetched) ids = unless (same_list (i ∷ fetched) ids) ResultDiffers

-- Each turn on the signals and layouts that the turns before it leave. A wait needs a signal and takes it,
-- an execution needs an executable buffer that meets its layouts, a signal needs that there is none.
unfoldable pub turns_fault : View → (ℕ → Bool) → (ℕ → ℕ) → List Turn → Option Fault
turns_fault v signalled layout [] = None
turns_fault v signalled layout (wait s ∷ ts) =
    first (unless (signalled s) SignalState) (turns_fault v (but s false signalled) layout ts)
turns_fault v signalled layout (execute cb ∷ ts) =
    let asked = flat_map layouts_of (v.buffer cb).commands in
    first (unless (is_executable (v.buffer cb).state) CommandState)
    (first (unless (meets layout asked) LayoutDiffers) (turns_fault v signalled (layouts_after layout asked) ts))
turns_fault v signalled layout (signal s ∷ ts) =
    first (unless (not (signalled s)) SignalState) (turns_fault v (but s true signalled) layout ts)

-- the range holds these bytes
abbrev pub range_holds : ℕ → ℕ → Range → Bool
range_holds offset length r = nat_le r.offset offset && nat_le (offset + length) (r.offset + r.length)

-- no bytes for a bound image, exactly the image's for one of a swapchain
abbrev pub wanted_bytes : Detail → ℕ → ℕ
wanted_bytes (an_image _ _ _ _ (Some index)) size = size
wanted_bytes _ size = 0

-- how many bytes an InitImage of this image has
abbrev pub wanted_by : View → ℕ → ℕ
wanted_by v image = option_map_or (λ o. wanted_bytes o.detail (size_of v image)) (v.live image) 0

-- rows of texels in a buffer, from an offset on: `row` texels from one row to the next, or `width` where it is 0
abbrev pub row_texels : ℕ → ℕ → ℕ
row_texels row width = if row == 0 then width else row

-- the fault of a check, where it is broken
unfoldable pub broken : View → Check → Option Fault
broken v (must f b) = unless b f
broken v outside = unless (is_none v.section) StateOrder
broken v inside = unless (is_some v.section) StateOrder
broken v at_start = unless v.is_empty StateOrder
broken v (ends_frame frame) = unless (option_map_or (λ n. n == frame) v.section false) BadValue
broken v (live k x) = unless (is_live v k x) NotLive
broken v (of x p) = unless (parent_of v x == p) WrongParent
broken v (near x p) = unless (device_of v x == device_of v p) WrongParent
broken v (new earlier x) = new_fault v earlier x
broken v (room n) = room_fault v n
broken v (room_for n) = unless (nat_le (live_bytes v + n) max_live_bytes) LimitReached
broken v (childless x) = unless (children v x == 0) HasChildren
broken v (childless_but_queue x) = unless (children v x == (if is_some (queue_of v x) then 1 else 0)) HasChildren
broken v (bare_surface x) = unless (not (has_swapchain v x)) HasChildren
broken v (free_surface x) = unless (not (has_swapchain v x)) SwapState
broken v (same_instance x y) = unless (parent_of v x == parent_of v y) WrongParent
broken v (the_queue device queue) = queue_fault v queue (queue_of v device)
broken v (the_images swapchain ids) = images_fault v (images_in v swapchain) (fetched v swapchain) ids
broken v (begins_in x offset) = unless (nat_lt offset (size_of v x)) OutOfRange
broken v (ends_in x end) = unless (nat_le end (size_of v x)) OutOfRange
broken v (rests_in x memory offset) = unless (nat_le (offset + size_of v x) (size_of v memory)) OutOfRange
broken v (unmapped x) = unless (is_none (v.mapped x)) MapState
broken v (is_mapped x) = unless (is_some (v.mapped x)) MapState
broken v (unbound x) = unless (is_none (v.bound x)) AlreadyBound
broken v (usable x) = unless (is_usable v x) NotBound
broken v (may_use x bit) = unless (has_bit (usage_of v x) bit) UsageMissing
broken v (recording cb) = unless (is_recording (v.buffer cb).state) CommandState
broken v (not_recording cb) = unless (not (is_recording (v.buffer cb).state)) CommandState
broken v (may_begin cb) = unless (is_initial (v.buffer cb).state || has_bit (pool_flags v cb) 2) PoolRule
broken v (may_reset cb) = unless (has_bit (pool_flags v cb) 2) PoolRule
broken v (fits n) = unless (nat_le (commands_kept v + 1) max_kept_commands && nat_le (bytes_kept v + n) max_kept_bytes) LimitReached
broken v (same_texel x y) = unless (texel v x == texel v y) FormatDiffers
broken v (uint_format image) = unless (is_among (format_at v image) (13 ∷ 41 ∷ 98 ∷ [])) FormatDiffers
broken v (texel_divides image offset) = unless (offset % texel v image == 0) BadValue
broken v (area_in image x y width height) =
    unless (nat_le (x + width) (width_of v image) && nat_le (y + height) (height_of v image)) OutOfRange
broken v (rows_in buffer image offset row width height) =
    unless (nat_le (offset + ((height - 1) * row_texels row width + width) * texel v image) (size_of v buffer)) OutOfRange
broken v (tells_all is_so xs) = unless (same_bool is_so (list_all v.signalled xs)) ResultDiffers
broken v (tells_some is_so xs) = unless (same_bool is_so (list_any v.signalled xs)) ResultDiffers
broken v (unsignalled x) = unless (not (v.signalled x)) SignalState
broken v (in_turn turns) = turns_fault v v.signalled v.layout turns
broken v (index_in swapchain index) = unless (nat_lt index (images_in v swapchain)) OutOfRange
broken v (is_acquired swapchain index) = unless (v.acquired swapchain index) SwapState
broken v (not_acquired swapchain index) = unless (not (v.acquired swapchain index)) SwapState
broken v (presentable swapchain index) =
    unless (option_map_or (λ image. v.layout image == 1000001002) (image_at v swapchain index) false) LayoutDiffers
broken v (all_acquired swapchain) =
    unless (list_all (v.acquired swapchain) (range_with_len 0 (images_in v swapchain))) ResultDiffers
broken v frame_room = unless (nat_le v.next_frame max_frame) LimitReached
broken v (may_fill memory) = unless (is_some v.section || is_some (v.mapped memory)) MapState
broken v (fill_in memory offset n) =
    unless (if is_some v.section then nat_le (offset + n) (size_of v memory)
    else option_map_or (range_holds offset n) (v.mapped memory) false) OutOfRange
broken v (image_bytes image n) = unless (n == wanted_by v image) BadValue
broken v (one_each swapchain n) = unless (n == images_in v swapchain) BadValue

-- the fault of the first broken check
abbrev pub first_broken : View → List Check → Option Fault
first_broken v [] = None
first_broken v (c ∷ cs) = first (broken v c) (first_broken v cs)
