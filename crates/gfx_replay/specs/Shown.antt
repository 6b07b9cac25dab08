-- What presents show, by the places of the bytes.
use Rattle.std.specs.Prelude.{◌≡◌, ◌≤◌, ◌*◌, ℕ, List, [], map, filter_map, length, Option, Some, None, IsSomeAnd, option_map, option_and_then, unwrap_or}
use Rattle.gfx_types.specs.Names.{format_of, texel_of}
use Rattle.gfx_types.specs.declared.lists.Present.{Present}
use Rattle.gfx_types.specs.declared.op.Place.TheVariants as place
use Rattle.gfx_types.specs.declared.frame.Picture.{Picture}
use Rattle.gfx_types.specs.declared.frame.Frame.{Frame}
use Rattle.gfx_model.specs.Events.{Event}
use Rattle.gfx_model.specs.Events.Event.{QueuePresentKHR}
use Rattle.gfx_model.specs.Steps.{Detail}
use Rattle.gfx_model.specs.Steps.Detail.{a_swapchain}
use Rattle.gfx_model.specs.Views.{View, image_at}
use Rattle.gfx_model.specs.Frames as frames
use Rattle.gfx_replay.specs.Held.{Bytes}
use Rattle.gfx_replay.specs.declared.shown.ShownPicture.{ShownPicture}
use Rattle.gfx_replay.specs.declared.shown.ShownFrame.{ShownFrame}
use Rattle.gfx_model.specs.Limits.{max_extent}

-- the image, with its bytes
abbrev pub picture_of : Bytes → ShownPicture → Picture
picture_of b p = record { width = p.width; height = p.height; format = p.format; pixels = unwrap_or (b p.place) [] }

-- the frame, with the bytes of its images
abbrev pub frame_of : Bytes → ShownFrame → Frame
frame_of b f = record { number = f.number; pictures = map (picture_of b) f.pictures.items }

-- the place of an image is there, and has its rows, tightly packed
pub record IsThere (b : Bytes) (p : ShownPicture) : Type 0 where
  pub wide : p.width ≤ max_extent
  pub high : p.height ≤ max_extent
  pub there : IsSomeAnd (b p.place) (λ bytes. length bytes ≡ p.height * (p.width * texel_of p.format))

-- an image of a swapchain of these parameters
abbrev pub shown_in : Detail → Option ℕ → Option ShownPicture
shown_in (a_swapchain surface images format width height usage) image =
    option_and_then (λ f. option_map (λ i. record { width = width; height = height; format = f; place = place.Image i }) image) (format_of format)
shown_in _ image = None

-- the image that is presented
abbrev pub shown_by : View → Present → Option ShownPicture
shown_by v p = option_and_then (λ o. shown_in o.detail (image_at v p.swapchain p.index)) (v.live p.swapchain)

-- the frame that an event shows after a history, where it is a present
abbrev pub frame_after : List Event → Event → Option Frame
frame_after h (QueuePresentKHR queue waits presents) = Some (frames.frame_of h presents)
frame_after h _ = None

-- what an event shows, by the answers before it: a present its images under the number of the next frame, and nothing else does
abbrev pub IsShownOf : View → Event → Option ShownFrame → Type 0
IsShownOf v (QueuePresentKHR queue waits presents) shown =
    IsSomeAnd shown (λ f. (f.number ≡ v.next_frame) × (f.pictures.items ≡ filter_map (shown_by v) presents))
IsShownOf v _ shown = shown ≡ None
