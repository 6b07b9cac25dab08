-- The images of a swapchain in a section.
use Rattle.std.specs.Prelude.{◌≡◌, ℕ, List, Bool, map, length, Option, Some, option_map}
use Rattle.std.specs.List.{range_with_len}
use Rattle.gfx_types.specs.declared.op.Place.{Place}
use Rattle.gfx_types.specs.declared.op.Place.TheVariants as place
use Rattle.gfx_model.specs.Events.{Event}
use Rattle.gfx_model.specs.Events.Event.{InitImage}
use Rattle.gfx_model.specs.Views.{View}
use Rattle.gfx_model.specs.Section.{mark}
use Rattle.gfx_state.specs.Known.{bytes_in}

-- acquired marks by index
abbrev pub marks_in : (ℕ → Bool) → ℕ → List ℕ
marks_in acquired images = map (λ k. mark (acquired k)) (range_with_len 0 images)

-- the layout of an image, and all bytes of its place
abbrev pub picture : View → (Place → Option (List ℕ)) → ℕ → Event
picture v bytes image = InitImage image (v.layout image) (bytes_in bytes (place.Image image))

-- the place of an image has so many bytes
abbrev pub IsPicture : (Place → Option (List ℕ)) → ℕ → ℕ → Type 0
IsPicture bytes size image = option_map length (bytes (place.Image image)) ≡ Some size
