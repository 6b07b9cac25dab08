-- The state section that is written for a history: what makes the same answers anew.
use Rattle.std.specs.Prelude.{ℕ, ◌+◌, ◌*◌, ◌-◌, ◌/◌, ◌==◌, min, Bool, not, ◌&&◌, if◌then◌else◌, List, [], ◌∷◌, ◌++◌, map, flat_map, filter, filter_map, Option, Some, None}
use Rattle.std.specs.List.{range_with_len}
use Rattle.std.specs.Option.{option_map_or}
use Rattle.gfx_types.specs.declared.names.Kind.{Kind}
use Rattle.gfx_types.specs.declared.names.Kind.TheVariants as kind
use Rattle.gfx_types.specs.declared.op.Place.TheVariants as place
use Rattle.gfx_model.specs.Events.{Event}
use Rattle.gfx_model.specs.Events.Event.{CreateInstance, CreateHeadlessSurfaceEXT, CreateDevice, GetDeviceQueue, AllocateMemory, FillMemory, MapMemory, CreateBuffer, BindBufferMemory, CreateImage, BindImageMemory, InitImage, CreateSwapchainKHR, GetSwapchainImagesKHR, SetSwapchainState, CreateFence, CreateSemaphore, SetSemaphoreState, CreateCommandPool, AllocateCommandBuffers, BeginCommandBuffer, EndCommandBuffer, BeginSection, EndSection}
use Rattle.gfx_model.specs.Steps.{Detail, Change}
use Rattle.gfx_model.specs.Steps.Detail.{an_instance, a_surface, a_device, a_queue, a_memory, a_buffer, an_image, a_pool, a_command_buffer, a_fence, a_semaphore, a_swapchain}
use Rattle.gfx_model.specs.Limits.{page_size}
use Rattle.gfx_model.specs.Questions.{State, Buffer, image_size}
use Rattle.gfx_model.specs.Views.{View, is_live, is_usable, parent_of, fetched}
use Rattle.gfx_model.specs.Bytes.{byte, bytes_at}
use Rattle.gfx_model.specs.History.{view, executed}

-- ---- fills

-- n bytes from an offset on
pub record Span : Type 0 where
  pub at : ℕ
  pub length : ℕ

-- the last of a list that begins with x
abbrev pub last_of : ℕ → List ℕ → ℕ
last_of x [] = x
last_of x (y ∷ ys) = last_of y ys

-- from the first to the last of these offsets
abbrev pub span_of : List ℕ → Option Span
span_of [] = None
span_of (x ∷ xs) = Some (record { at = x; length = last_of x xs + 1 - x })

-- the offsets in a range at which a byte isn't 0
abbrev pub nonzero : (ℕ → ℕ) → ℕ → ℕ → List ℕ
nonzero f at n = filter (λ i. not (f i == 0)) (range_with_len at n)

-- the fill of page k of n bytes, whose last page may be shorter
abbrev pub page_fill : (ℕ → ℕ) → ℕ → ℕ → Option Span
page_fill f n k = span_of (nonzero f (k * page_size) (min page_size (n - k * page_size)))

-- the fills of n bytes: of each page with a byte other than 0, from the first such byte to the last
unfoldable pub fills_of : (ℕ → ℕ) → ℕ → List Span
fills_of f n = filter_map (page_fill f n) (range_with_len 0 ((n + (page_size - 1)) / page_size))

-- ---- the blocks of one object

-- what the section reads: the answers, and the changes of bytes
pub record Known : Type 0 where
  pub answers : View
  pub es : List Change

-- what is known after a history
abbrev pub known : List Event → Known
known h = record { answers = view h; es = executed h }

-- the live ids of a kind, rising
abbrev pub live_ids : View → Kind → List ℕ
live_ids v k = filter (is_live v k) v.ids

-- the list, where the condition holds
abbrev pub when : {X : Type 0} → Bool → List X → List X
when b xs = if b then xs else []

-- the fills of a memory
abbrev pub fill_events : Known → ℕ → ℕ → List Event
fill_events s memory size =
    map (λ f. FillMemory memory f.at (bytes_at s.es (place.Memory memory) f.at f.length))
    (fills_of (byte s.es (place.Memory memory)) size)

-- the map of a memory, where it has one
abbrev pub map_event : Known → ℕ → ℕ → List Event
map_event s device memory = option_map_or (λ r. MapMemory device memory r.offset r.length ∷ []) (s.answers.mapped memory) []

-- the binding of a usable resource
abbrev pub bind_event : Known → (ℕ → ℕ → Event) → ℕ → List Event
bind_event s bind x =
    when (is_usable s.answers x) (option_map_or (λ b. bind b.memory b.offset ∷ []) (s.answers.bound x) [])

-- the layout of a usable image, but UNDEFINED
abbrev pub layout_event : Known → ℕ → List Event
layout_event s image =
    when (is_usable s.answers image && not (s.answers.layout image == 0)) (InitImage image (s.answers.layout image) [] ∷ [])

-- layout and bytes of an image of a swapchain
abbrev pub image_event : Known → ℕ → ℕ → Event
image_event s size image = InitImage image (s.answers.layout image) (bytes_at s.es (place.Image image) 0 size)

-- 1 for yes, 0 for no
abbrev pub mark : Bool → ℕ
mark b = if b then 1 else 0

-- the acquired marks of a swapchain, by index
abbrev pub marks_of : Known → ℕ → ℕ → List ℕ
marks_of s swapchain images = map (λ k. mark (s.answers.acquired swapchain k)) (range_with_len 0 images)

-- the images of a swapchain, where they were fetched
abbrev pub fetch_event : ℕ → ℕ → List ℕ → List Event
fetch_event device swapchain [] = []
fetch_event device swapchain (i ∷ is) = GetSwapchainImagesKHR device swapchain (i ∷ is) ∷ []

-- the buffers of a pool, where it has some
abbrev pub allocate_event : ℕ → ℕ → List ℕ → List Event
allocate_event device pool [] = []
allocate_event device pool (b ∷ bs) = AllocateCommandBuffers device pool (b ∷ bs) ∷ []

-- a recording or executable buffer is recorded anew
abbrev pub recording_events : ℕ → State → Buffer → List Event
recording_events cb State.recording b = BeginCommandBuffer cb b.flags ∷ b.commands
recording_events cb State.executable b = BeginCommandBuffer cb b.flags ∷ b.commands ++ EndCommandBuffer cb ∷ []
recording_events cb _ b = []

-- the live command buffers of a pool, rising
abbrev pub buffers_of : Known → ℕ → List ℕ
buffers_of s pool = filter (λ cb. parent_of s.answers cb == pool) (live_ids s.answers kind.CommandBuffer)

-- the blocks of an object of these parameters
abbrev pub object_events : Known → ℕ → ℕ → Detail → List Event
object_events s x parent (an_instance api) = CreateInstance x api ∷ []
object_events s x parent a_surface = CreateHeadlessSurfaceEXT parent x ∷ []
object_events s x parent a_device = CreateDevice parent x ∷ []
object_events s x parent a_queue = GetDeviceQueue parent x ∷ []
object_events s x parent (a_memory size) = AllocateMemory parent x size ∷ fill_events s x size ++ map_event s parent x
object_events s x parent (a_buffer size usage) = CreateBuffer parent x size usage ∷ bind_event s (BindBufferMemory parent x) x
object_events s x parent (an_image format width height usage None) =
    CreateImage parent x format width height usage ∷ bind_event s (BindImageMemory parent x) x ++ layout_event s x
object_events s x parent (an_image format width height usage (Some index)) = []
object_events s x parent (a_swapchain surface images format width height usage) =
    CreateSwapchainKHR parent x surface images format width height usage
    ∷ fetch_event parent x (fetched s.answers x)
    ++ SetSwapchainState x (marks_of s x images)
    ∷ map (image_event s (image_size format width height)) (fetched s.answers x)
object_events s x parent a_fence = CreateFence parent x (mark (s.answers.signalled x)) ∷ []
object_events s x parent a_semaphore =
    CreateSemaphore parent x ∷ when (s.answers.signalled x) (SetSemaphoreState x 1 ∷ [])
object_events s x parent (a_pool flags) =
    CreateCommandPool parent x flags ∷ allocate_event parent x (buffers_of s x)
    ++ flat_map (λ cb. recording_events cb (s.answers.buffer cb).state (s.answers.buffer cb)) (buffers_of s x)
object_events s x parent a_command_buffer = []

-- the blocks of all live objects of a kind
abbrev pub group : Known → Kind → List Event
group s k = flat_map (λ x. option_map_or (λ o. object_events s x o.parent o.detail) (s.answers.live x) []) (live_ids s.answers k)

-- the kinds in the order of the section; an image of a swapchain and a command buffer are with their parents
abbrev pub section_order : List Kind
section_order = kind.Instance ∷ kind.Surface ∷ kind.Device ∷ kind.Queue ∷ kind.Memory ∷ kind.Buffer ∷ kind.Image
    ∷ kind.Swapchain ∷ kind.Fence ∷ kind.Semaphore ∷ kind.Pool ∷ []

-- the section for a history, whose next frame has number n
unfoldable pub section : List Event → ℕ → List Event
section h n = BeginSection n ∷ flat_map (group (known h)) section_order ++ EndSection n ∷ []
