-- Which parameters an object of a kind has, and where its bytes stand.
use Rattle.std.proofs.Common.{◌≡◌, ℕ, ◌==◌, ◌||◌, true, IsTrue, Option, Some, None, refl, ap, subst, sym, ◌∙◌}
use Rattle.std.specs.Prelude.{option_map, option_and_then}
use Rattle.std.specs.FinMap as map
use Rattle.gfx_types.specs.declared.names.Kind.TheVariants as kind
use Rattle.gfx_model.specs.Steps.{Detail as Parameters, kind_of, kind_number}
use Rattle.gfx_model.specs.Steps.Detail.{an_instance, a_surface, a_device, a_queue, a_memory, a_buffer, an_image, a_pool, a_command_buffer, a_fence, a_semaphore, a_swapchain}
use Rattle.gfx_model.specs.Questions.{image_size, passes}
use Rattle.gfx_model.specs.Views.{is_live, window, bound_window, detail_window}
use Rattle.gfx_objects.specs.declared.object.Object.{Object}
use Rattle.gfx_objects.specs.declared.object.Binding.{Binding}
use Rattle.gfx_objects.specs.declared.object.Detail.{Detail}
use Rattle.gfx_objects.specs.declared.object.Detail.TheVariants as declared
use Rattle.gfx_objects.specs.Object.{made, detail_of, bound_of, binding_of, is_resource, is_image, is_memory}
use Rattle.gfx_objects.specs.Objects.{Kept, answers}

resource_kind : (d : Parameters) → IsTrue (kind_number (kind_of d) == 6 || kind_number (kind_of d) == 7) → IsTrue (is_resource d)
resource_kind (an_instance _) h = h
resource_kind a_surface h = h
resource_kind a_device h = h
resource_kind a_queue h = h
resource_kind (a_memory _) h = h
resource_kind (a_buffer _ _) h = refl
resource_kind (an_image _ _ _ _ _) h = refl
resource_kind (a_pool _) h = h
resource_kind a_command_buffer h = h
resource_kind a_fence h = h
resource_kind a_semaphore h = h
resource_kind (a_swapchain _ _ _ _ _ _) h = h

image_kind : (d : Parameters) → IsTrue (kind_number (kind_of d) == 7) → IsTrue (is_image d)
image_kind (an_instance _) h = h
image_kind a_surface h = h
image_kind a_device h = h
image_kind a_queue h = h
image_kind (a_memory _) h = h
image_kind (a_buffer _ _) h = h
image_kind (an_image _ _ _ _ _) h = refl
image_kind (a_pool _) h = h
image_kind a_command_buffer h = h
image_kind a_fence h = h
image_kind a_semaphore h = h
image_kind (a_swapchain _ _ _ _ _ _) h = h

memory_kind : (d : Parameters) → IsTrue (kind_number (kind_of d) == 5) → is_memory d ≡ true
memory_kind (an_instance _) h = h
memory_kind a_surface h = h
memory_kind a_device h = h
memory_kind a_queue h = h
memory_kind (a_memory _) h = refl
memory_kind (a_buffer _ _) h = h
memory_kind (an_image _ _ _ _ _) h = h
memory_kind (a_pool _) h = h
memory_kind a_command_buffer h = h
memory_kind a_fence h = h
memory_kind a_semaphore h = h
memory_kind (a_swapchain _ _ _ _ _ _) h = h

module _ (k : Kept) (id : ℕ) (o : Object) (some : map.get k.rows id ≡ Some o) where
  pub resource_live : IsTrue (is_live (answers k) kind.Buffer id || is_live (answers k) kind.Image id) → IsTrue (is_resource (detail_of o.detail))
  unfolding answers
  resource_live h =
      resource_kind (detail_of o.detail)
      (subst (λ q. IsTrue (passes (λ o. kind_number (kind_of o.detail) == 6) (option_map made q) || passes (λ o. kind_number (kind_of o.detail) == 7) (option_map made q))) some h)

  pub image_live : IsTrue (is_live (answers k) kind.Image id) → IsTrue (is_image (detail_of o.detail))
  unfolding answers
  image_live h = image_kind (detail_of o.detail) (subst (λ q. IsTrue (passes (λ o. kind_number (kind_of o.detail) == 7) (option_map made q))) some h)

  pub memory_live : IsTrue (is_live (answers k) kind.Memory id) → is_memory (detail_of o.detail) ≡ true
  unfolding answers
  memory_live h = memory_kind (detail_of o.detail) (subst (λ q. IsTrue (passes (λ o. kind_number (kind_of o.detail) == 5) (option_map made q))) some h)

  -- ---- windows

  pub window_at : window (answers k) id ≡ detail_window (answers k) id (detail_of o.detail)
  unfolding answers
  window_at = ap (λ q. option_and_then (λ o. detail_window (answers k) id o.detail) (option_map made q)) some

  pub bound_at : (d : Detail) → o.detail ≡ d → (answers k).bound id ≡ bound_of d
  unfolding answers
  bound_at d is = ap (option_and_then (λ o. bound_of o.detail)) some ∙ ap bound_of is

  pub window_of_buffer : (size usage : ℕ) (bound : Option Binding) → o.detail ≡ declared.Buffer size usage bound
      → bound_window (answers k) size (option_map binding_of bound) ≡ window (answers k) id
  window_of_buffer size usage bound is =
      sym (window_at ∙ ap (λ d. detail_window (answers k) id (detail_of d)) is ∙ ap (bound_window (answers k) size) (bound_at _ is))

  pub window_of_image : (format width height usage layout : ℕ) (bound : Option Binding) (index : Option ℕ) → o.detail ≡ declared.Image format width height usage layout bound index → index ≡ None
      → bound_window (answers k) (image_size format width height) (option_map binding_of bound) ≡ window (answers k) id
  window_of_image format width height usage layout bound index is none =
      sym (window_at ∙ ap (λ d. detail_window (answers k) id (detail_of d)) is
      ∙ ap (λ i. detail_window (answers k) id (an_image format width height usage i)) none
      ∙ ap (bound_window (answers k) (image_size format width height)) (bound_at _ is))
