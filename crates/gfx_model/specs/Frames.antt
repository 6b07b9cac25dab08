-- The frames of a capture: what each present shows.
use Rattle.std.specs.Prelude.{ℕ, List, [], ◌∷◌, ◌++◌, map, unwrap_or}
use Rattle.std.specs.Option.{option_map_or}
use Rattle.gfx_types.specs.Names.{format_of}
use Rattle.gfx_types.specs.declared.names.Format.TheVariants.{R8Uint}
use Rattle.gfx_types.specs.declared.lists.Present.{Present}
use Rattle.gfx_types.specs.declared.op.Place.TheVariants as place
use Rattle.gfx_types.specs.declared.frame.Picture.{Picture}
use Rattle.gfx_types.specs.declared.frame.Frame.{Frame}
use Rattle.gfx_model.specs.Events.{Event}
use Rattle.gfx_model.specs.Events.Event.{QueuePresentKHR}
use Rattle.gfx_model.specs.Questions.{image_size}
use Rattle.gfx_model.specs.Steps.{Change}
use Rattle.gfx_model.specs.Views.{View, format_at, width_of, height_of, image_at}
use Rattle.gfx_model.specs.Bytes.{bytes_at}
use Rattle.gfx_model.specs.History.{view, executed}

-- the bytes of an image of a swapchain
abbrev pub picture_size : View → ℕ → ℕ
picture_size v swapchain = image_size (format_at v swapchain) (width_of v swapchain) (height_of v swapchain)

-- a presented image: the extent and format of its swapchain, and its bytes
abbrev pub picture : View → List Change → Present → Picture
picture v es p = record {
  width = width_of v p.swapchain;
  height = height_of v p.swapchain;
  format = unwrap_or (format_of (format_at v p.swapchain)) R8Uint;
  pixels = option_map_or (λ image. bytes_at es (place.Image image) 0 (picture_size v p.swapchain)) (image_at v p.swapchain p.index) [];
}

-- the frame that a present shows after a history
abbrev pub frame_of : List Event → List Present → Frame
frame_of h presents = record { number = (view h).next_frame; pictures = map (picture (view h) (executed h)) presents }

-- the frames of a history, the first one first
unfoldable pub frames : List Event → List Frame
frames [] = []
frames (QueuePresentKHR queue waits presents ∷ h) = frames h ++ frame_of h presents ∷ []
frames (_ ∷ h) = frames h
