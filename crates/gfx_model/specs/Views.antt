-- All that is asked of a capture, gathered into one record, and what follows from it.
use Rattle.std.specs.Prelude.{ℕ, zero, suc, ◌*◌, ◌==◌, ◌&&◌, count_by, sum_by, find, filter, flat_map, length, Bool, true, false, if◌then◌else◌, List, [], ◌∷◌, Option, Some, None, is_some, option_and_then, slice_get}
use Rattle.std.specs.List.{list_any, range_with_len}
use Rattle.std.specs.Option.{option_map_or}
use Rattle.gfx_types.specs.declared.names.Kind.{Kind}
use Rattle.gfx_types.specs.declared.names.Kind.TheVariants as kind
use Rattle.gfx_types.specs.declared.op.Place.{Place}
use Rattle.gfx_types.specs.declared.op.Place.TheVariants as place
use Rattle.gfx_model.specs.Steps.{Step, Object, Detail, kind_of, kind_number}
use Rattle.gfx_model.specs.Steps.Detail.{a_queue, a_memory, a_buffer, an_image, a_pool, a_swapchain}
use Rattle.gfx_model.specs.Spelling.{spelling}
use Rattle.gfx_model.specs.Questions as asked
use Rattle.gfx_model.specs.Questions.{Binding, Range, Buffer, new_buffer, image_size, texel_size, is_kept, passes}

-- The answers to all questions. Checks read nothing else.
pub record View : Type 0 where
  -- live objects, their ids, rising, and which ids were ever used
  pub live : ℕ → Option Object
  pub ids : List ℕ
  pub used : ℕ → Bool
  -- the one binding of a live resource, and the range of a memory
  pub bound : ℕ → Option Binding
  pub mapped : ℕ → Option Range
  -- state, flags and commands of a live command buffer; a new one for any other id
  pub buffer : ℕ → Buffer
  -- live fences and semaphores that are signalled, and acquired images of live swapchains
  pub signalled : ℕ → Bool
  pub acquired : ℕ → ℕ → Bool
  -- the newest layout of a live image
  pub layout : ℕ → ℕ
  pub next_frame : ℕ
  -- no effect was taken yet
  pub is_empty : Bool
  -- the frame of the section that is begun and not ended
  pub section : Option ℕ

-- no step was taken
abbrev pub is_empty_list : List Step → Bool
is_empty_list [] = true
is_empty_list (_ ∷ h) = false

-- the answers after these steps, the newest first
abbrev pub view_of : List Step → View
view_of h = record {
  live = asked.live h;
  ids = asked.ids h;
  used = asked.used h;
  bound = asked.for_live h None (asked.bound h);
  mapped = asked.mapped h;
  buffer = asked.for_live h new_buffer (asked.buffer h);
  signalled = asked.for_live h false (asked.signalled h);
  acquired = asked.for_live h (λ index. false) (asked.acquired h);
  layout = asked.for_live h 0 (asked.layout h);
  next_frame = asked.next_frame h;
  is_empty = is_empty_list h;
  section = asked.open_section h;
}

-- ---- what follows for one object

-- it is a live object of this kind
abbrev pub is_live : View → Kind → ℕ → Bool
is_live v k x = passes (λ o. kind_number (kind_of o.detail) == kind_number k) (v.live x)

-- the parent of x, 0 where x isn't live
abbrev pub parent_of : View → ℕ → ℕ
parent_of v x = option_map_or (λ o. o.parent) (v.live x) 0

-- a number of the parameters of x, 0 where x isn't live
abbrev pub ask : (Detail → ℕ) → View → ℕ → ℕ
ask f v x = option_map_or (λ o. f o.detail) (v.live x) 0

-- the bytes of a memory, buffer or image
abbrev pub detail_size : Detail → ℕ
detail_size (a_memory size) = size
detail_size (a_buffer size usage) = size
detail_size (an_image format width height usage index) = image_size format width height
detail_size _ = 0

-- the usage of a buffer or image
abbrev pub detail_usage : Detail → ℕ
detail_usage (a_buffer size usage) = usage
detail_usage (an_image format width height usage index) = usage
detail_usage _ = 0

-- the format of an image or swapchain
abbrev pub detail_format : Detail → ℕ
detail_format (an_image format width height usage index) = format
detail_format (a_swapchain surface images format width height usage) = format
detail_format _ = 0

-- the width of an image or swapchain
abbrev pub detail_width : Detail → ℕ
detail_width (an_image format width height usage index) = width
detail_width (a_swapchain surface images format width height usage) = width
detail_width _ = 0

-- the height of an image or swapchain
abbrev pub detail_height : Detail → ℕ
detail_height (an_image format width height usage index) = height
detail_height (a_swapchain surface images format width height usage) = height
detail_height _ = 0

-- the usage of a swapchain's images
abbrev pub detail_image_usage : Detail → ℕ
detail_image_usage (a_swapchain surface images format width height usage) = usage
detail_image_usage _ = 0

-- the number of a swapchain's images
abbrev pub detail_images : Detail → ℕ
detail_images (a_swapchain surface images format width height usage) = images
detail_images _ = 0

-- the flags of a pool
abbrev pub detail_flags : Detail → ℕ
detail_flags (a_pool flags) = flags
detail_flags _ = 0

-- the size in bytes of a memory, a buffer or an image
abbrev pub size_of : View → ℕ → ℕ
size_of = ask detail_size

-- the usage of a buffer or an image
abbrev pub usage_of : View → ℕ → ℕ
usage_of = ask detail_usage

-- the format of an image or a swapchain
abbrev pub format_at : View → ℕ → ℕ
format_at = ask detail_format

-- the width of an image or a swapchain
abbrev pub width_of : View → ℕ → ℕ
width_of = ask detail_width

-- the height of an image or a swapchain
abbrev pub height_of : View → ℕ → ℕ
height_of = ask detail_height

-- the bytes of a texel of an image
abbrev pub texel : View → ℕ → ℕ
texel v image = texel_size (format_at v image)

-- the usage of a swapchain's images
abbrev pub usage_in : View → ℕ → ℕ
usage_in = ask detail_image_usage

-- how many images a swapchain has
abbrev pub images_in : View → ℕ → ℕ
images_in = ask detail_images

-- the flags of the pool of a command buffer
abbrev pub pool_flags : View → ℕ → ℕ
pool_flags v cb = ask detail_flags v (parent_of v cb)

-- ---- what follows for all live objects

-- the live object of this id passes the test
abbrev pub is_one : View → (Object → Bool) → ℕ → Bool
is_one v test x = passes test (v.live x)

-- how many objects are live
abbrev pub object_count : View → ℕ
object_count v = length v.ids

-- live objects of this parent
abbrev pub children : View → ℕ → ℕ
children v p = count_by (is_one v (λ o. o.parent == p)) v.ids

-- it is a queue
abbrev pub is_queue : Detail → Bool
is_queue a_queue = true
is_queue _ = false

-- the queue of a device
abbrev pub queue_of : View → ℕ → Option ℕ
queue_of v device = find (is_one v (λ o. o.parent == device && is_queue o.detail)) v.ids

-- it is the image of a swapchain at index k
abbrev pub has_index : ℕ → Detail → Bool
has_index k (an_image _ _ _ _ (Some index)) = index == k
has_index k _ = false

-- the fetched images of a swapchain, by index
abbrev pub fetched : View → ℕ → List ℕ
fetched v swapchain =
    flat_map (λ k. filter (is_one v (λ o. o.parent == swapchain && has_index k o.detail)) v.ids)
    (range_with_len 0 (images_in v swapchain))

-- the fetched image of a swapchain at an index
abbrev pub image_at : View → ℕ → ℕ → Option ℕ
image_at v swapchain index = slice_get (fetched v swapchain) index

-- it is a swapchain on this surface
abbrev pub is_on : ℕ → Detail → Bool
is_on surface (a_swapchain s _ _ _ _ _) = s == surface
is_on surface _ = false

-- a live swapchain was created on this surface
abbrev pub has_swapchain : View → ℕ → Bool
has_swapchain v surface = list_any (is_one v (λ o. is_on surface o.detail)) v.ids

-- what an object counts against the limit on bytes
abbrev pub detail_bytes : Detail → ℕ
detail_bytes (a_memory size) = size
detail_bytes (a_swapchain surface images format width height usage) = images * image_size format width height
detail_bytes _ = 0

-- bytes of live memory and of images of live swapchains
abbrev pub live_bytes : View → ℕ
live_bytes v = sum_by (ask detail_bytes v) v.ids

-- commands that a buffer keeps
abbrev pub commands_in : Buffer → ℕ
commands_in b = if is_kept b.state then length b.commands else 0

-- bytes of the fields of these commands
abbrev pub bytes_in : Buffer → ℕ
bytes_in b = if is_kept b.state then sum_by (λ c. length (spelling 1 c)) b.commands else 0

-- commands in live recording and executable buffers
abbrev pub commands_kept : View → ℕ
commands_kept v = sum_by (λ x. commands_in (v.buffer x)) v.ids

-- bytes of their fields
abbrev pub bytes_kept : View → ℕ
bytes_kept v = sum_by (λ x. bytes_in (v.buffer x)) v.ids

-- ---- devices

-- the first device up the parents in n steps, 0 where there is none
abbrev pub climb : ℕ → View → ℕ → ℕ
climb zero v x = 0
climb (suc n) v x = if is_live v kind.Device x then x else climb n v (parent_of v x)

-- the device that the parents of x lead to, 0 where there is none; a command buffer and a fetched image are two steps away
abbrev pub device_of : View → ℕ → ℕ
device_of v x = climb 3 v x

-- ---- usable resources

-- where the bytes of a usable resource stand
pub record Window : Type 0 where
  pub place : Place
  pub offset : ℕ
  pub length : ℕ

-- the window of a resource of n bytes under its binding
abbrev pub bound_window : View → ℕ → Option Binding → Option Window
bound_window v n None = None
bound_window v n (Some b) =
    if is_live v kind.Memory b.memory then Some (record { place = place.Memory b.memory; offset = b.offset; length = n }) else None

-- the window of an object of these parameters
abbrev pub detail_window : View → ℕ → Detail → Option Window
detail_window v r (a_buffer size usage) = bound_window v size (v.bound r)
detail_window v r (an_image format width height usage None) = bound_window v (image_size format width height) (v.bound r)
detail_window v r (an_image format width height usage (Some index)) =
    Some (record { place = place.Image r; offset = 0; length = image_size format width height })
detail_window v r _ = None

-- the window of a resource that is bound to live memory, or is an image of a live swapchain
abbrev pub window : View → ℕ → Option Window
window v r = option_and_then (λ o. detail_window v r o.detail) (v.live r)

-- a resource that has a window
abbrev pub is_usable : View → ℕ → Bool
is_usable v r = is_some (window v r)
