-- What a row says of its object, in the words of the capture's questions.
use Rattle.std.specs.Prelude.{ℕ, ◌==◌, nat_le, Bool, true, false, ◌&&◌, ◌≡◌, Option, Some, None, option_map, if◌then◌else◌}
use Rattle.gfx_objects.specs.declared.object.Object.{Object}
use Rattle.gfx_objects.specs.declared.object.Binding.{Binding}
use Rattle.gfx_objects.specs.declared.object.Window.{Window}
use Rattle.gfx_objects.specs.declared.object.Detail.{Detail}
use Rattle.gfx_objects.specs.declared.object.Detail.TheVariants as declared
use Rattle.gfx_model.specs.Steps.{Detail as Parameters, Object as Made}
use Rattle.gfx_model.specs.Steps.Detail.{an_instance, a_surface, a_device, a_queue, a_memory, a_buffer, an_image, a_pool, a_command_buffer, a_fence, a_semaphore, a_swapchain}
use Rattle.gfx_model.specs.Questions.{Binding as Bound, Range, is_owned, range_of}
use Rattle.gfx_model.specs.Views.{Window as Shown}
use Rattle.gfx_model.specs.Limits.{max_extent, max_swapchain_images}

-- the parameters of an object's creation
abbrev pub detail_of : Detail → Parameters
detail_of (declared.Instance api) = an_instance api
detail_of declared.Surface = a_surface
detail_of declared.Device = a_device
detail_of declared.Queue = a_queue
detail_of (declared.Memory size mapped) = a_memory size
detail_of (declared.Buffer size usage bound) = a_buffer size usage
detail_of (declared.Image format width height usage layout bound index) = an_image format width height usage index
detail_of (declared.Pool flags) = a_pool flags
detail_of declared.CommandBuffer = a_command_buffer
detail_of declared.Fence = a_fence
detail_of declared.Semaphore = a_semaphore
detail_of (declared.Swapchain surface images format width height usage) = a_swapchain surface images format width height usage

-- a binding in the words of the questions
abbrev pub binding_of : Binding → Bound
binding_of b = record { memory = b.memory; offset = b.offset }

-- a window in the words of the questions
abbrev pub window_of : Window → Shown
window_of w = record { place = w.place; offset = w.offset; length = w.length }

-- where a resource is bound
abbrev pub bound_of : Detail → Option Bound
bound_of (declared.Buffer size usage bound) = option_map binding_of bound
bound_of (declared.Image format width height usage layout bound index) = option_map binding_of bound
bound_of _ = None

-- the memory to which a resource is bound
abbrev pub memory_of : Detail → Option ℕ
memory_of d = option_map (λ b. b.memory) (bound_of d)

-- the mapped range of a memory
abbrev pub mapped_of : Detail → Option Range
mapped_of (declared.Memory size mapped) = option_map range_of mapped
mapped_of _ = None

-- the layout of an image, UNDEFINED of anything else
abbrev pub layout_of : Detail → ℕ
layout_of (declared.Image format width height usage layout bound index) = layout
layout_of _ = 0

-- a live object in the words of the questions: its parent and the parameters of its creation
abbrev pub made : Object → Made
made o = record { parent = o.parent; detail = detail_of o.detail }

-- nothing was bound, mapped or set yet
pub record IsNew (detail : Detail) : Type 0 where
  pub unbound : bound_of detail ≡ None
  pub unmapped : mapped_of detail ≡ None
  pub undefined : layout_of detail ≡ 0

-- extents and the number of images are within their limits
abbrev pub is_within : Parameters → Bool
is_within (an_image format width height usage index) = nat_le width max_extent && nat_le height max_extent
is_within (a_swapchain surface images format width height usage) = nat_le images max_swapchain_images && nat_le width max_extent && nat_le height max_extent
is_within _ = true

-- a buffer or an image
abbrev pub is_resource : Parameters → Bool
is_resource (a_buffer size usage) = true
is_resource (an_image format width height usage index) = true
is_resource _ = false

-- an image
abbrev pub is_image : Parameters → Bool
is_image (an_image format width height usage index) = true
is_image _ = false

-- a memory
abbrev pub is_memory : Parameters → Bool
is_memory (a_memory size) = true
is_memory _ = false

-- the object is owned by this one
abbrev pub is_owned_by : ℕ → Object → Bool
is_owned_by owner o = is_owned (detail_of o.detail) && owner == o.parent

-- the object that owns this one
abbrev pub owner_of : Object → Option ℕ
owner_of o = if is_owned (detail_of o.detail) then Some o.parent else None

-- the surface of a swapchain
abbrev pub surface_of : Parameters → Option ℕ
surface_of (a_swapchain surface images format width height usage) = Some surface
surface_of _ = None
