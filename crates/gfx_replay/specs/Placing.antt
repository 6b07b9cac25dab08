-- Which steps make or end places.
use Rattle.std.specs.Prelude.{◌≡◌, Bool, true, false, List, [], ◌∷◌, is_some}
use Rattle.gfx_model.specs.Events.{Event}
use Rattle.gfx_model.specs.Events.Event.{AllocateMemory, FreeMemory, DestroySwapchainKHR, GetSwapchainImagesKHR}
use Rattle.gfx_model.specs.Steps.{Step, Detail}
use Rattle.gfx_model.specs.Steps.Step.{creates, ends}
use Rattle.gfx_model.specs.Steps.Detail.{a_memory, an_image, a_swapchain}
use Rattle.gfx_model.specs.Questions.{passes}
use Rattle.gfx_model.specs.Views.{View}
use Rattle.gfx_model.specs.After.{after}

-- an object of these parameters has a place
abbrev pub is_placed : Detail → Bool
is_placed (a_memory size) = true
is_placed (an_image format width height usage index) = is_some index
is_placed _ = false

-- places end with an object of these parameters
abbrev pub is_home : Detail → Bool
is_home (a_memory size) = true
is_home (a_swapchain surface images format width height usage) = true
is_home _ = false

-- a step that makes and ends no place
abbrev pub IsPlaceless : View → Step → Type 0
IsPlaceless v (creates id parent detail) = is_placed detail ≡ false
IsPlaceless v (ends gone) = passes (λ o. is_home o.detail) (v.live gone) ≡ false
IsPlaceless v _ = Unit {0}

-- steps of which none makes or ends a place
abbrev pub ArePlaceless : View → List Step → Type 0
ArePlaceless v [] = Unit {0}
ArePlaceless v (s ∷ ss) = IsPlaceless v s × ArePlaceless (after v s) ss

-- an event whose row may make or end places
abbrev pub changes_places : Event → Bool
changes_places (AllocateMemory device memory size) = true
changes_places (FreeMemory device memory) = true
changes_places (DestroySwapchainKHR device swapchain) = true
changes_places (GetSwapchainImagesKHR device swapchain images) = true
changes_places _ = false
