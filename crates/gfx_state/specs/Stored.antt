-- The bytes of places, as a section asks for them.
use Rattle.std.specs.Prelude.{◌≡◌, ℕ, List, length, Option, Some, option_map}
use Rattle.std.specs.List.{AllByRecursion}
use Rattle.gfx_types.specs.declared.op.Place.{Place}
use Rattle.gfx_types.specs.declared.op.Place.TheVariants as place
use Rattle.gfx_model.specs.Steps.{Change, Detail, Object}
use Rattle.gfx_model.specs.Steps.Detail.{a_memory, a_swapchain}
use Rattle.gfx_model.specs.Questions.{image_size}
use Rattle.gfx_model.specs.Views.{View, fetched}
use Rattle.gfx_model.specs.Bytes.{bytes_at}
use Rattle.gfx_state.specs.Images.{IsPicture}

-- the places of an object with these parameters are there, and have so many bytes
abbrev pub HasPlacesOf : View → (Place → Option (List ℕ)) → ℕ → Detail → Type 0
HasPlacesOf v bytes x (a_memory size) = option_map length (bytes (place.Memory x)) ≡ Some size
HasPlacesOf v bytes x (a_swapchain surface images format width height usage) = AllByRecursion (IsPicture bytes (image_size format width height)) (fetched v x)
HasPlacesOf v bytes x _ = Unit {0}

-- each live memory and each fetched image of a live swapchain has a place of the right length
abbrev pub HasPlaces : View → (Place → Option (List ℕ)) → Type 0
HasPlaces v bytes = (x : ℕ) (o : Object) → v.live x ≡ Some o → HasPlacesOf v bytes x o.detail

-- the places of an object with these parameters have the bytes that these changes leave
abbrev pub IsStoredOf : View → (Place → Option (List ℕ)) → List Change → ℕ → Detail → Type 0
IsStoredOf v bytes es x (a_memory size) = bytes (place.Memory x) ≡ Some (bytes_at es (place.Memory x) 0 size)
IsStoredOf v bytes es x (a_swapchain surface images format width height usage) =
    AllByRecursion (λ y. bytes (place.Image y) ≡ Some (bytes_at es (place.Image y) 0 (image_size format width height))) (fetched v x)
IsStoredOf v bytes es x _ = Unit {0}

-- the place of each live memory and of each fetched image of a live swapchain has the bytes that these changes leave
abbrev pub IsStored : View → (Place → Option (List ℕ)) → List Change → Type 0
IsStored v bytes es = (x : ℕ) (o : Object) → v.live x ≡ Some o → IsStoredOf v bytes es x o.detail
