-- The lines of images that are kept.
use Rattle.std.specs.Prelude.{◌≡◌, ◌≤◌, ◌<◌, ◌+◌, ◌^◌, ℕ, false, List, [], ◌++◌, length, map, string_bytes}
use Rattle.std.specs.declared.option.Option.{Option}
use Rattle.std.specs.List.{flat_map, sum_by}
use Rattle.sha2.specs.Sha256.{sha256}
use Rattle.gfx_model.specs.Text.{hex_text}
use Rattle.gfx_frames.specs.Texts.{digest_line, first_line}
use Rattle.gfx_frames.proofs.SoFar.{SoFar}
use Rattle.gfx_frames.specs.declared.lines.Listing.{Listing}
use Rattle.gfx_replay.specs.Held.{Bytes}
use Rattle.gfx_fan.specs.declared.album.Album.{Album}
use Rattle.gfx_fan.specs.declared.begun.Begun.{Begun}
use Rattle.gfx_fan.specs.declared.shown.Caption.{Caption}
use Rattle.gfx_fan.specs.declared.shown.Shown.{Shown}

-- a file's lines without the rows of its images
abbrev pub plain : ℕ → Listing
plain m = record { minor = m; pixels = false }

-- an image, with what is written of it beside its digest
pub record Image : Type 0 where
  pub caption : Caption
  pub pixels : List ℕ

-- an image that was shown
abbrev pub of_shown : Shown → Image
of_shown s = record { caption = s.caption; pixels = s.pixels }

-- an image whose digest is being found
abbrev pub of_begun : Begun → Image
of_begun b = record { caption = b.caption; pixels = b.hashing.pixels.value }

-- images that were shown
abbrev pub newer : List Shown → List Image
newer ss = map of_shown ss

-- images whose digests are being found
abbrev pub older : List Begun → List Image
older bs = map of_begun bs

-- the images that an album keeps
abbrev pub images : Album → List Image
images k = older k.begun.items ++ newer k.shown.items

-- the line of an image, with its digest
abbrev pub image_line : Image → List ℕ
image_line i = digest_line (string_bytes i.caption.title) i.caption.shown (hex_text (sha256 i.pixels))

-- the lines of images, one after another
abbrev pub lines_of : List Image → List ℕ
lines_of is = flat_map image_line is

-- the lines of the images that an album keeps
abbrev pub kept_lines : Album → List ℕ
kept_lines k = lines_of (images k)

-- the bytes of images
abbrev pub image_bytes : List Image → ℕ
image_bytes is = sum_by (λ i. length i.pixels) is

-- an album keeps at most 32 images that are being digested and 32 newer ones; each of these two has less than 2^27 bytes, and those of the newer are counted
pub record IsHeld (k : Album) : Type 0 where
  pub counted : k.size ≡ image_bytes (newer k.shown.items)
  pub few : length k.shown.items ≤ 32
  pub small : k.size < 2 ^ 27
  pub older_few : length k.begun.items ≤ 32
  pub older_small : image_bytes (older k.begun.items) < 2 ^ 27

-- there is room for an image more: fewer than 32 are newer, and they have less than 2^26 bytes
pub record IsSmall (k : Album) : Type 0 where
  pub held : IsHeld k
  pub few : length k.shown.items < 32
  pub small : k.size < 2 ^ 26

-- no image is kept
pub record IsBare (k : Album) : Type 0 where
  pub begun : k.begun.items ≡ []
  pub shown : k.shown.items ≡ []
  pub size : k.size ≡ 0

-- the line of an image in its place
abbrev pub line_of : Bytes → Caption → List ℕ
line_of places c = first_line places (string_bytes c.title) c.shown

-- a frame more was counted, whose lines are behind those that were kept; the sink took a first part of all, and the rest is kept
pub record TakesFrame (old new : Album) (text : List ℕ) (before after : Option (List ℕ)) : Type 0 where
  pub asked : new.screen.asked ≡ old.screen.asked
  pub listing : new.screen.listing ≡ old.screen.listing
  pub count : new.screen.count ≡ old.screen.count + 1
  pub small : IsSmall new
  pub text_is : SoFar before after (kept_lines old ++ text) (kept_lines new)

-- few images are kept, and no rows are listed
pub record IsListed (k : Album) : Type 0 where
  pub small : IsSmall k
  pub plain_is : k.screen.listing.pixels ≡ false

-- an album is in order, and at most one frame more was counted
pub record GoesOn (old new : Album) : Type 0 where
  pub listed : IsListed new
  pub count : new.screen.count ≤ old.screen.count + 1
