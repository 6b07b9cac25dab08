-- What the section needs of a history's answers, beside what is lawful.
use Rattle.std.specs.Prelude.{◌≡◌, ◌<◌, ◌≤◌, ℕ, ◌+◌, ◌==◌, Bool, true, false, ◌&&◌, [], ◌∷◌, length, nat_le, Some, None, is_some}
use Rattle.std.specs.List.{AllByRecursion}
use Rattle.gfx_types.specs.Names.{format_of}
use Rattle.gfx_types.specs.declared.names.Kind.TheVariants as kind
use Rattle.gfx_model.specs.Limits.{max_extent, max_swapchain_images, bind_alignment, max_live_objects, max_live_bytes, max_kept_commands, max_kept_bytes}
use Rattle.gfx_model.specs.Steps.{Object, Detail}
use Rattle.gfx_model.specs.Steps.Detail.{an_instance, a_surface, a_device, a_queue, a_memory, a_buffer, an_image, a_pool, a_command_buffer, a_fence, a_semaphore, a_swapchain}
use Rattle.gfx_model.specs.Questions.{Binding, Range, Buffer, is_kept, passes}
use Rattle.gfx_model.specs.Views.{View, is_live, parent_of, size_of, detail_size, live_bytes, commands_kept, bytes_kept, images_in}
use Rattle.gfx_model.specs.Checks.{is_among}
use Rattle.gfx_model.specs.Table.{is_positive, is_layout, divides}
use Rattle.gfx_model.specs.Covers.{is_fetched}
use Rattle.gfx_laws.specs.Lawful.{base, HasImage, IsCommandOf, IsRising, is_image, has_signal}

-- parameters that an image may have, but for the limits on its extent
abbrev pub is_sound_image : ℕ → ℕ → ℕ → ℕ → Bool
is_sound_image format width height usage = is_some (format_of format) && is_positive width && is_positive height && is_positive usage

-- parameters that a swapchain may have, but for the limits on its images and their extent
abbrev pub is_sound_chain : ℕ → ℕ → ℕ → ℕ → ℕ → Bool
is_sound_chain images format width height usage =
    is_positive images && is_positive width && is_positive height && is_positive usage && is_some (format_of format)

-- a live object was made of a live parent, with good parameters
abbrev pub IsMadeOf : View → ℕ → Detail → Type 0
IsMadeOf v parent (an_instance api) = parent ≡ 0
IsMadeOf v parent a_surface = is_live v kind.Instance parent ≡ true
IsMadeOf v parent a_device = is_live v kind.Instance parent ≡ true
IsMadeOf v parent a_queue = is_live v kind.Device parent ≡ true
IsMadeOf v parent (a_memory size) = (is_live v kind.Device parent ≡ true) × (is_positive size ≡ true)
IsMadeOf v parent (a_buffer size usage) = (is_live v kind.Device parent ≡ true) × (is_positive size && is_positive usage ≡ true)
IsMadeOf v parent (an_image format width height usage None) =
    (is_live v kind.Device parent ≡ true) × (is_sound_image format width height usage ≡ true)
    × (nat_le width max_extent && nat_le height max_extent ≡ true)
IsMadeOf v parent (an_image format width height usage (Some index)) = HasImage format width height usage index (v.live parent)
IsMadeOf v parent (a_pool flags) = (is_live v kind.Device parent ≡ true) × (nat_le flags 3 ≡ true)
IsMadeOf v parent a_command_buffer = is_live v kind.Pool parent ≡ true
IsMadeOf v parent a_fence = is_live v kind.Device parent ≡ true
IsMadeOf v parent a_semaphore = is_live v kind.Device parent ≡ true
IsMadeOf v parent (a_swapchain surface images format width height usage) =
    (is_live v kind.Device parent ≡ true) × (is_live v kind.Surface surface ≡ true)
    × (parent_of v surface ≡ parent_of v parent) × (is_sound_chain images format width height usage ≡ true)
    × (nat_le images max_swapchain_images && nat_le width max_extent && nat_le height max_extent ≡ true)

-- the mapped range of a memory lies in it
pub record IsMapped (v : View) (x : ℕ) (r : Range) : Type 0 where
  pub memory : is_live v kind.Memory x ≡ true
  pub some : is_positive r.length ≡ true
  pub begins : r.offset < size_of v x
  pub ends : r.offset + r.length ≤ size_of v x

-- a live resource that is bound to live memory lies in it, and both are of one device
pub record IsBound (v : View) (o : Object) (b : Binding) : Type 0 where
  pub whole : divides bind_alignment b.offset ≡ true
  pub near : parent_of v b.memory ≡ o.parent
  pub inside : b.offset + detail_size o.detail ≤ size_of v b.memory

-- a command buffer is live, its flags are such as a begin may have, and its commands are its own and break none of their checks
pub record IsKept (v : View) (cb : ℕ) (b : Buffer) : Type 0 where
  pub is_buffer : is_live v kind.CommandBuffer cb ≡ true
  pub flags : is_among b.flags (0 ∷ 1 ∷ 4 ∷ 5 ∷ []) ≡ true
  pub commands : AllByRecursion (IsCommandOf (base v) cb) b.commands

-- image k of a swapchain
abbrev pub IsImage : View → ℕ → ℕ → ℕ → Type 0
IsImage v swapchain k x =
    (format : ℕ) × (width : ℕ) × (height : ℕ) × (usage : ℕ)
    × (v.live x ≡ Some (record { parent = swapchain; detail = an_image format width height usage (Some k) }))

-- what the section needs of the answers
pub record IsOrderly (v : View) : Type 0 where
  pub rising : IsRising v.ids
  pub listed : (x : ℕ) → is_among x v.ids ≡ is_some (v.live x)
  pub nonzero : (x : ℕ) (o : Object) → v.live x ≡ Some o → (x == 0) ≡ false
  pub made : (x : ℕ) (o : Object) → v.live x ≡ Some o → IsMadeOf v o.parent o.detail
  -- a device has one queue at most, and a surface one swapchain
  pub one_queue : (x y p : ℕ) → v.live x ≡ Some (record { parent = p; detail = a_queue }) → v.live y ≡ Some (record { parent = p; detail = a_queue }) → x ≡ y
  pub one_chain : (x y p q s i f w h u j g a b c : ℕ) →
      v.live x ≡ Some (record { parent = p; detail = a_swapchain s i f w h u }) → v.live y ≡ Some (record { parent = q; detail = a_swapchain s j g a b c }) → x ≡ y
  -- of a swapchain no image is fetched, or each one once
  pub one_image : (swapchain k x y : ℕ) → IsImage v swapchain k x → IsImage v swapchain k y → x ≡ y
  pub all_images : (swapchain k x : ℕ) → IsImage v swapchain k x → (j : ℕ) → j < images_in v swapchain → (y : ℕ) × IsImage v swapchain j y
  pub mapped : (x : ℕ) (r : Range) → v.mapped x ≡ Some r → IsMapped v x r
  pub bound : (x : ℕ) (o : Object) (b : Binding) → v.live x ≡ Some o → v.bound x ≡ Some b → is_live v kind.Memory b.memory ≡ true → IsBound v o b
  pub never_bound : (x : ℕ) (o : Object) → v.live x ≡ Some o → is_fetched o.detail ≡ true → v.bound x ≡ None
  pub signalled : (x : ℕ) → v.signalled x ≡ true → passes (λ o. has_signal o.detail) (v.live x) ≡ true
  pub acquired : (x k : ℕ) → v.acquired x k ≡ true → (is_live v kind.Swapchain x ≡ true) × (k < images_in v x)
  pub layouts : (x : ℕ) → is_layout (v.layout x) ≡ true
  pub no_layouts : (x : ℕ) (o : Object) → v.live x ≡ Some o → is_image o.detail ≡ false → v.layout x ≡ 0
  pub buffers : (cb : ℕ) → is_kept (v.buffer cb).state ≡ true → IsKept v cb (v.buffer cb)
  pub few : length v.ids ≤ max_live_objects
  pub small : live_bytes v ≤ max_live_bytes
  pub commands : commands_kept v ≤ max_kept_commands
  pub bytes : bytes_kept v ≤ max_kept_bytes
