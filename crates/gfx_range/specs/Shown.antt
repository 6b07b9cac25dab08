-- The images that presents show.
use Rattle.std.specs.Prelude.{List, [], ◌∷◌}
use Rattle.std.specs.Option.{option_map_or}
use Rattle.gfx_types.specs.declared.lists.Present.{Present}
use Rattle.gfx_model.specs.Views.{View, image_at, size_of}
use Rattle.gfx_asked.specs.declared.access.Access.{Access}
use Rattle.gfx_asked.specs.declared.access.Access.TheVariants.{Show}

-- the image of a present, where it was fetched
abbrev pub shown_present : View → Present → List Access
shown_present v p = option_map_or (λ image. Show image (size_of v image) ∷ []) (image_at v p.swapchain p.index) []
