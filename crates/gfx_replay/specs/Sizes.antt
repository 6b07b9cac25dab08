-- The places of a capture: those of live memories and of images of live swapchains.
use Rattle.std.specs.Prelude.{ℕ, if◌then◌else◌, Option, Some, None}
use Rattle.gfx_types.specs.declared.names.Kind.TheVariants as kind
use Rattle.gfx_types.specs.declared.op.Place.{Place}
use Rattle.gfx_types.specs.declared.op.Place.TheVariants as place
use Rattle.gfx_model.specs.Questions.{passes}
use Rattle.gfx_model.specs.Views.{View, is_live, size_of}
use Rattle.gfx_model.specs.Covers.{is_fetched}

-- how many bytes the place of a live memory has, or of an image of a live swapchain
abbrev pub place_size : View → Place → Option ℕ
place_size v (place.Memory m) = if is_live v kind.Memory m then Some (size_of v m) else None
place_size v (place.Image x) = if passes (λ o. is_fetched o.detail) (v.live x) then Some (size_of v x) else None
