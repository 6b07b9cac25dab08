-- The lines of shown frames, with the bytes of their places.
use Rattle.std.specs.Prelude.{ℕ, Bool, List, [], ◌∷◌, ◌++◌, codes, decimal, unwrap_or}
use Rattle.gfx_types.specs.Names.{format_name}
use Rattle.gfx_types.specs.declared.op.Place.{Place}
use Rattle.sha2.specs.Sha256.{sha256}
use Rattle.gfx_model.specs.Text.{hex_text, row_lines, picture_lines, frame_lines}
use Rattle.gfx_replay.specs.Held.{Bytes}
use Rattle.gfx_replay.specs.Shown.{picture_of, frame_of}
use Rattle.gfx_frames.specs.declared.lines.Listing.{Listing}
use Rattle.gfx_replay.specs.declared.shown.ShownPicture.{ShownPicture}
use Rattle.gfx_replay.specs.declared.shown.ShownFrame.{ShownFrame}

-- the bytes of a place
abbrev pub bytes_of : Bytes → Place → List ℕ
bytes_of places at = unwrap_or (places at) []

-- the extent of an image
abbrev pub extent_text : ShownPicture → List ℕ
extent_text p = decimal p.width ++ (codes "x" ++ decimal p.height)

-- the line of an image, by its title and the text of its digest
unfoldable pub digest_line : List ℕ → ShownPicture → List ℕ → List ℕ
digest_line title p digest =
    codes "frame " ++ (title ++ (codes " " ++ (extent_text p ++ (codes " " ++ (format_name p.format ++ (codes " " ++ (digest ++ 10 ∷ [])))))))

-- the line of an image with the digest of its bytes
unfoldable pub first_line : Bytes → List ℕ → ShownPicture → List ℕ
first_line places title p = digest_line title p (hex_text (sha256 (bytes_of places p.place)))

-- the lines of its rows
unfoldable pub rows_of : Bytes → ShownPicture → List ℕ
rows_of places p = row_lines (picture_of places p)

-- the lines of an image under its title
unfoldable pub lines_of : Bytes → Bool → List ℕ → ShownPicture → List ℕ
lines_of places pixels title p = picture_lines sha256 pixels title (picture_of places p)

-- the lines of a frame
unfoldable pub text_of : Bytes → Listing → ShownFrame → List ℕ
text_of places listing f = frame_lines listing.minor sha256 listing.pixels (frame_of places f)
