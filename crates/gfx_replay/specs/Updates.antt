-- The places that an event makes and ends.
use Rattle.std.specs.Prelude.{◌≡◌, ℕ, ◌==◌, ◌&&◌, true, false, is_some, List, Option, Some, None, option_map, replicate}
use Rattle.gfx_types.specs.declared.names.Kind.TheVariants as kind
use Rattle.gfx_types.specs.declared.op.Place.{Place}
use Rattle.gfx_types.specs.declared.op.Place.TheVariants as place
use Rattle.gfx_model.specs.Events.{Event}
use Rattle.gfx_model.specs.Events.Event.{AllocateMemory, FreeMemory, DestroySwapchainKHR, GetSwapchainImagesKHR}
use Rattle.gfx_model.specs.Questions.{is_owned, passes}
use Rattle.gfx_model.specs.Views.{View, Window, window, is_live}
use Rattle.gfx_model.specs.Checks.{is_among}
use Rattle.gfx_replay.specs.Maps.{IsSame, IsSet, IsGiven, IsKept}
use Rattle.gfx_replay.specs.Held.{Bytes}

-- as many zeros as a window has bytes
abbrev pub zeros_in : Window → List ℕ
zeros_in w = replicate w.length 0

-- the zeros of an image, as many as its window has bytes
abbrev pub zeros_of : View → Place → Option (List ℕ)
zeros_of v (place.Memory m) = None
zeros_of v (place.Image x) = option_map zeros_in (window v x)

-- what an event makes of the places, by the answers after it
abbrev pub AreUpdated : View → Event → Bytes → Bytes → Type 0
AreUpdated v (AllocateMemory device memory size) old new = IsSet old new (place.Memory memory) (Some (replicate size 0))
AreUpdated v (FreeMemory device memory) old new = IsSet old new (place.Memory memory) None
AreUpdated v (GetSwapchainImagesKHR device swapchain images) old new = IsGiven old new images (zeros_of v)
AreUpdated v (DestroySwapchainKHR device swapchain) old new = IsKept old new (is_live v kind.Image)
AreUpdated v _ old new = IsSame old new

-- a new memory has no place yet
abbrev pub IsVacantFor : Event → Bytes → Type 0
IsVacantFor (AllocateMemory device memory size) old = old (place.Memory memory) ≡ None
IsVacantFor _ old = Unit {0}

-- these are the images that an event ends, by the answers before it
abbrev pub AreEndedBy : View → Event → List ℕ → Type 0
AreEndedBy v (DestroySwapchainKHR device swapchain) ids = (x : ℕ) → is_among x ids ≡ passes (λ o. is_owned o.detail && swapchain == o.parent) (v.live x)
AreEndedBy v _ ids = Unit {0}

-- the images that have a place and are not live after the event are among these
abbrev pub HoldEnded : View → Event → Bytes → List ℕ → Type 0
HoldEnded v (DestroySwapchainKHR device swapchain) old ids = (x : ℕ) → is_live v kind.Image x ≡ false → is_some (old (place.Image x)) ≡ true → is_among x ids ≡ true
HoldEnded v _ old ids = Unit {0}
