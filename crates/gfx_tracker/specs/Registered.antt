-- Live objects with the signals of fences and semaphores and the marks of acquired images, and what they answer.
use Rattle.std.specs.Prelude.{◌≡◌, ℕ, Bool, false, List, length, replicate, Option, Some, None, is_some, option_map, if◌then◌else◌}
use Rattle.std.specs.Option.{option_map_or}
use Rattle.std.specs.Ordering.{nat_cmp}
use Rattle.std.specs.FinMap as map
use Rattle.std.specs.FinMap.{FinMap}
use Rattle.gfx_model.specs.Steps.{Detail}
use Rattle.gfx_model.specs.Steps.Detail.{a_swapchain}
use Rattle.gfx_model.specs.Questions.{passes}
use Rattle.gfx_model.specs.Views.{View}
use Rattle.gfx_laws.specs.Lawful.{has_signal}
use Rattle.gfx_objects.specs.Objects.{Kept, answers}
use Rattle.gfx_swap.specs.Signals.{is_signalled}
use Rattle.gfx_swap.specs.Acquired.{is_acquired}

-- what they answer; buffers and frames are kept elsewhere, and plain here
abbrev pub registered : Kept → FinMap nat_cmp Bool → FinMap nat_cmp (List Bool) → View
registered objects signals images = record (answers objects) { signalled = is_signalled signals; acquired = is_acquired images }

-- how many images a swapchain has; nothing else has images of its own
abbrev pub images_of : Detail → Option ℕ
images_of (a_swapchain surface images format width height usage) = Some images
images_of _ = None

-- the signals with those of a new object
abbrev pub with_signal : ℕ → Detail → FinMap nat_cmp Bool → FinMap nat_cmp Bool
with_signal id d signals = if has_signal d then map.insert signals id false else signals

-- the signals without those of an object
abbrev pub without_signal : ℕ → Detail → FinMap nat_cmp Bool → FinMap nat_cmp Bool
without_signal id d signals = if has_signal d then map.remove signals id else signals

-- the marks with those of a new object, none of them set
abbrev pub with_images : ℕ → Detail → FinMap nat_cmp (List Bool) → FinMap nat_cmp (List Bool)
with_images id d marks = option_map_or (λ n. map.insert marks id (replicate n false)) (images_of d) marks

-- the marks without those of an object
abbrev pub without_images : ℕ → Detail → FinMap nat_cmp (List Bool) → FinMap nat_cmp (List Bool)
without_images id d marks = option_map_or (λ n. map.remove marks id) (images_of d) marks

-- exactly the live fences and semaphores have signals, and exactly the live swapchains have marks, one an image
pub record IsRegistered (objects : Kept) (signals : FinMap nat_cmp Bool) (images : FinMap nat_cmp (List Bool)) : Type 0 where
  pub signal : (x : ℕ) → is_some (map.get signals x) ≡ passes (λ o. has_signal o.detail) ((answers objects).live x)
  pub marks : (x : ℕ) → option_map length (map.get images x) ≡ option_map_or (λ o. images_of o.detail) ((answers objects).live x) None
