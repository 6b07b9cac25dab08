-- The bytes of images, hashed piece by piece.
use Rattle.std.proofs.Common.{◌≡◌, ◌+◌, ◌≤◌, ℕ, List, [], ◌∷◌, ◌++◌, length, take, refl, ap, ◌∙◌, append_assoc}
use Rattle.std.specs.Prelude.{flat_map, map}
use Rattle.std.specs.List.{slice_range}
use Rattle.std.proofs.Math.Seq.{take-length}
use Rattle.gfx_frames.specs.Texts.{bytes_of}
use Rattle.gfx_frames.proofs.Pieces.{one_more}
use Rattle.gfx_replay.specs.Held.{Bytes}
use Rattle.gfx_replay.specs.Shown.{frame_of, picture_of}
use Rattle.gfx_replay.specs.declared.shown.ShownFrame.{ShownFrame}
use Rattle.gfx_replay.specs.declared.shown.ShownPicture.{ShownPicture}
use Rattle.gfx_digest.specs.Images.{frame_bytes}

-- ---- a place

-- one piece more, behind what was hashed before
pub piece_more : (before all : List ℕ) (at count : ℕ) (buffer piece : List ℕ) → count ≤ length buffer → piece ≡ slice_range all at (at + length (take count buffer)) →
    (before ++ take at all) ++ piece ≡ before ++ take (at + count) all
piece_more before all at count buffer piece fits is = append_assoc before (take at all) piece ∙ ap (λ l. before ++ l) (one_more all at count buffer piece fits is)

-- ---- the images of a frame

-- the bytes of their places, one after another
abbrev pub places_bytes : Bytes → List ShownPicture → List ℕ
places_bytes places ps = flat_map (λ (p : ShownPicture). bytes_of places p.place) ps

images_are : (places : Bytes) (ps : List ShownPicture) → places_bytes places ps ≡ flat_map (λ p. p.pixels) (map (picture_of places) ps)
images_are places [] = refl
images_are places (p ∷ ps) = ap (λ l. bytes_of places p.place ++ l) (images_are places ps)

pub all_images : (places : Bytes) (before : List ℕ) (f : ShownFrame) (ps : List ShownPicture) (n : ℕ) → ps ≡ f.pictures.items → n ≡ length ps →
    before ++ places_bytes places (take n ps) ≡ before ++ frame_bytes (frame_of places f)
all_images places before f ps n are all =
    ap (λ n. before ++ places_bytes places (take n ps)) all
    ∙ ap (λ l. before ++ places_bytes places l) (take-length ps ∙ are)
    ∙ ap (λ l. before ++ l) (images_are places f.pictures.items)
