-- What a range of events needs of the state before it, and the shorter section that keeps just that.
use Rattle.std.specs.Prelude.{◌≡◌, ◌<◌, ◌≤◌, ℕ, ◌+◌, ◌-◌, if◌then◌else◌, Bool, true, false, List, [], ◌∷◌, ◌++◌, take, length, filter, flat_map, Option, Some, None, is_some, IsTrue, Contains}
use Rattle.std.specs.Option.{option_map_or}
use Rattle.gfx_types.specs.declared.lists.Present.{Present}
use Rattle.gfx_types.specs.declared.op.Place.{Place}
use Rattle.gfx_types.specs.declared.op.Place.TheVariants as place
use Rattle.gfx_model.specs.Events.{Event}
use Rattle.gfx_model.specs.Events.Event.{CreateInstance, CreateHeadlessSurfaceEXT, CreateDevice, GetDeviceQueue, AllocateMemory, FillMemory, MapMemory, CreateBuffer, BindBufferMemory, CreateImage, BindImageMemory, InitImage, CreateSwapchainKHR, GetSwapchainImagesKHR, SetSwapchainState, CreateFence, CreateSemaphore, SetSemaphoreState, CreateCommandPool, AllocateCommandBuffers, BeginCommandBuffer, EndCommandBuffer, CmdPipelineBarrier, CmdFillBuffer, CmdUpdateBuffer, CmdCopyBuffer, CmdCopyImage, CmdCopyBufferToImage, CmdCopyImageToBuffer, CmdClearColorImage, QueuePresentKHR}
use Rattle.gfx_model.specs.Steps.{Detail, Change, resources_of}
use Rattle.gfx_model.specs.Steps.Detail.{a_swapchain}
use Rattle.gfx_model.specs.Steps.Change.{put, fill, copy, set_layout}
use Rattle.gfx_model.specs.Questions.{is_kept}
use Rattle.gfx_model.specs.Views.{View, is_usable, parent_of, size_of, fetched, image_at}
use Rattle.gfx_model.specs.Bytes.{covers_byte}
use Rattle.gfx_script_model.specs.Ids.{uses_of, defines_of}
use Rattle.gfx_model.specs.Covers.{is_fetched}
use Rattle.gfx_model.specs.History.{onto, view, executed}
use Rattle.gfx_model.specs.Section.{section}
use Rattle.gfx_model.specs.Blocks.{Content, Whole, End, AreBlocks, minor_of}
use Rattle.gfx_model.specs.Blocks.Content.{skipped, effect}
use Rattle.gfx_model.specs.Trimmed.{boundary, history_to, range_from, file_of}

-- ---- needed ids

-- the ids that the effects of a range name, also those that a second query names again
abbrev pub named_in : List Event → List ℕ
named_in range = flat_map (λ e. uses_of 2 e ++ defines_of 2 e) range

-- the surface of a swapchain
abbrev pub surface_of : Detail → Option ℕ
surface_of (a_swapchain surface images format width height usage) = Some surface
surface_of _ = None

-- The least set of live ids that holds what the range names, and with each id its parent, the memory under it, its
-- surface, its fetched images, and what its commands name.
pub data Needed (v : View) (range : List Event) : ℕ → Type 0 where
  by_name : (x : ℕ) → IsTrue (is_some (v.live x)) → Contains (named_in range) x → Needed v range x
  as_parent : (x : ℕ) → IsTrue (is_some (v.live (parent_of v x))) → Needed v range x → Needed v range (parent_of v x)
  as_memory : (x m : ℕ) → IsTrue (is_usable v x) → option_map_or (λ b. Some b.memory) (v.bound x) None ≡ Some m →
      Needed v range x → Needed v range m
  as_surface : (x s : ℕ) → option_map_or (λ o. surface_of o.detail) (v.live x) None ≡ Some s → Needed v range x → Needed v range s
  as_image : (x i : ℕ) → Contains (fetched v x) i → Needed v range x → Needed v range i
  as_resource : (cb r : ℕ) → IsTrue (is_kept (v.buffer cb).state) → Contains (flat_map resources_of (v.buffer cb).commands) r →
      Needed v range cb → Needed v range r

-- ---- asked bytes

-- where the question for a byte arrives below these changes, if none of them answers it
unfoldable pub arrives : List Change → Place → ℕ → Option (Place × ℕ)
arrives [] at i = Some (at, i)
arrives (put to offset bytes ∷ es) at i =
    elim (covers_byte to offset (length bytes) at i) [ true ↦ None | false ↦ arrives es at i ]
arrives (fill to offset n word ∷ es) at i = elim (covers_byte to offset n at i) [ true ↦ None | false ↦ arrives es at i ]
arrives (copy to to_offset source source_offset n ∷ es) at i =
    elim (covers_byte to to_offset n at i) [ true ↦ arrives es source (source_offset + (i - to_offset)) | false ↦ arrives es at i ]
arrives (set_layout image layout ∷ es) at i = arrives es at i

-- the changes of a range that goes on after a history
abbrev pub changes_since : List Event → List Event → List Change
changes_since h now = take (length (executed now) - length (executed h)) (executed now)

-- a present of the range asks for a byte of its image, and the question arrives at this byte before the range
pub record IsAsked (h range : List Event) (at : Place) (j : ℕ) : Type 0 where
  pub front : List Event
  pub queue : ℕ
  pub waits : List ℕ
  pub presents : List Present
  pub rest : List Event
  pub stands : range ≡ front ++ QueuePresentKHR queue waits presents ∷ rest
  pub shown : Present
  pub is_shown : Contains presents shown
  pub image : ℕ
  pub is_image : image_at (view (onto front h)) shown.swapchain shown.index ≡ Some image
  pub i : ℕ
  pub inside : i < size_of (view (onto front h)) image
  pub comes : arrives (changes_since h (onto front h)) (place.Image image) i ≡ Some (at, j)

-- ---- the shorter section

-- the object of which a block of the section is
abbrev pub subject_of : View → Event → Option ℕ
subject_of v (CreateInstance instance api) = Some instance
subject_of v (CreateHeadlessSurfaceEXT instance surface) = Some surface
subject_of v (CreateDevice instance device) = Some device
subject_of v (GetDeviceQueue device queue) = Some queue
subject_of v (AllocateMemory device memory size) = Some memory
subject_of v (FillMemory memory offset bytes) = Some memory
subject_of v (MapMemory device memory offset size) = Some memory
subject_of v (CreateBuffer device buffer size usage) = Some buffer
subject_of v (BindBufferMemory device buffer memory offset) = Some buffer
subject_of v (CreateImage device image format width height usage) = Some image
subject_of v (BindImageMemory device image memory offset) = Some image
subject_of v (InitImage image layout bytes) =
    Some (option_map_or (λ o. if is_fetched o.detail then o.parent else image) (v.live image) image)
subject_of v (CreateSwapchainKHR device swapchain surface images format width height usage) = Some swapchain
subject_of v (GetSwapchainImagesKHR device swapchain images) = Some swapchain
subject_of v (SetSwapchainState swapchain acquired) = Some swapchain
subject_of v (CreateFence device fence flags) = Some fence
subject_of v (CreateSemaphore device semaphore) = Some semaphore
subject_of v (SetSemaphoreState semaphore signalled) = Some semaphore
subject_of v (CreateCommandPool device pool flags) = Some pool
subject_of v (AllocateCommandBuffers device pool buffers) = Some pool
subject_of v (BeginCommandBuffer cb flags) = Some cb
subject_of v (EndCommandBuffer cb) = Some cb
subject_of v (CmdPipelineBarrier cb barriers) = Some cb
subject_of v (CmdFillBuffer cb buffer offset size word) = Some cb
subject_of v (CmdUpdateBuffer cb buffer offset bytes) = Some cb
subject_of v (CmdCopyBuffer cb source target regions) = Some cb
subject_of v (CmdCopyImage cb source source_layout target target_layout regions) = Some cb
subject_of v (CmdCopyBufferToImage cb source target layout regions) = Some cb
subject_of v (CmdCopyImageToBuffer cb source layout target regions) = Some cb
subject_of v (CmdClearColorImage cb image layout c0 c1 c2 c3) = Some cb
subject_of v _ = None

-- what is kept: ids, and fills of a memory by offset and length
pub record Keep : Type 0 where
  pub id : ℕ → Bool
  pub fill : ℕ → ℕ → ℕ → Bool

-- one allocation of what is left, where some is
abbrev pub allocated : ℕ → ℕ → List ℕ → List Event
allocated device pool [] = []
allocated device pool (b ∷ bs) = AllocateCommandBuffers device pool (b ∷ bs) ∷ []

-- a block of a kept object, a fill where it is kept, and of an allocation the kept buffers
abbrev pub kept_block : Keep → Event → List Event
kept_block k (FillMemory memory offset bytes) = if k.fill memory offset (length bytes) then FillMemory memory offset bytes ∷ [] else []
kept_block k (AllocateCommandBuffers device pool buffers) = allocated device pool (filter k.id buffers)
kept_block k e = e ∷ []

-- what is left of a block: nothing where its object is not kept
abbrev pub kept_events : View → Keep → Event → List Event
kept_events v k e = if option_map_or k.id (subject_of v e) true then kept_block k e else []

-- the section with what is kept alone
unfoldable pub kept_section : Keep → List Event → ℕ → List Event
kept_section k h n = flat_map (kept_events (view h) k) (section h n)

-- just the needed ids, and just the fills with an asked byte
pub record KeepsNeeded (h range : List Event) (k : Keep) : Type 0 where
  pub needed : (x : ℕ) → Needed (view h) range x → IsTrue (k.id x)
  pub only : (x : ℕ) → IsTrue (k.id x) → Needed (view h) range x
  pub asked : (m offset n j : ℕ) → offset ≤ j → j < offset + n → IsAsked h range (place.Memory m) j → IsTrue (k.fill m offset n)
  pub only_asked : (m offset n : ℕ) → IsTrue (k.fill m offset n) →
      (j : ℕ) × (offset ≤ j) × (j < offset + n) × IsAsked h range (place.Memory m) j

-- the event of a block, where it has one
abbrev pub event_in : Content → List Event
event_in skipped = []
event_in (effect thread event) = event ∷ []

-- the events of blocks, in order
abbrev pub events_in : List Whole → List Event
events_in blocks = flat_map (λ w. event_in w.content) blocks

-- the lean file of frames first to last: the trimmed one, but for its section
pub record IsLean (first last : ℕ) (bytes out : List ℕ) : Type 0 where
  pub blocks : List Whole
  pub end : End
  pub are : AreBlocks bytes blocks end
  pub keep : Keep
  pub keeps : KeepsNeeded (history_to (boundary first blocks)) (events_in (range_from last (boundary first blocks))) keep
  pub same : out ≡ file_of (minor_of bytes)
      (kept_section keep (history_to (boundary first blocks)) first) (range_from last (boundary first blocks))
