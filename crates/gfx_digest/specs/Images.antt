-- The bytes of the images of frames.
use Rattle.std.specs.Prelude.{ℕ, List, flat_map}
use Rattle.gfx_types.specs.declared.frame.Frame.{Frame}

-- the bytes of the images of a frame, one image after another
abbrev pub frame_bytes : Frame → List ℕ
frame_bytes f = flat_map (λ p. p.pixels) f.pictures

-- those of frames, one frame after another
unfoldable pub image_bytes : List Frame → List ℕ
image_bytes fs = flat_map frame_bytes fs
