-- The lines of images that are kept, one image after another.
use Rattle.std.proofs.Common.{◌≡◌, ◌<◌, ◌≤◌, ◌+◌, ◌*◌, ◌^◌, ◌||◌, nat_le, ℕ, suc, Bool, false, List, [], ◌∷◌, ◌++◌, length, drop, map, get_or, drop-cons, le_refl, Option, Some, None, IsSomeAnd, refl, sym, ap, subst, ◌∙◌, append_assoc, arith}
use Rattle.std.specs.Prelude.{IsSome, string_bytes, unwrap_or}
use Rattle.std.specs.Io.KnownBytes.{Appends}
use Rattle.std.proofs.Math.Nat.{mul-le-mul}
use Rattle.std.proofs.lemmas.Bool.Decides.{nat_tests}
use Rattle.std.proofs.lemmas.List.{append-nil, drop-append-le, drop-map, drop_all, get_or-map, length-map}
use Rattle.sha2.specs.Sha256.{sha256}
use Rattle.gfx_io.specs.Pieces.{AppendsPart}
use Rattle.gfx_io.proofs.Appending.{appends_then, part_then}
use Rattle.gfx_types.specs.declared.names.Format.{Format}
use Rattle.gfx_types.specs.declared.names.Format.TheVariants.{R8Uint}
use Rattle.gfx_types.specs.Names.{texel_of}
use Rattle.gfx_model.specs.Text.{hex_text, title_of}
use Rattle.gfx_frames.specs.Texts.{bytes_of, digest_line, first_line}
use Rattle.gfx_frames.specs.declared.lines.Listing.{Listing}
use Rattle.gfx_frames.proofs.Listed.{lines_from, next_lines, without_rows}
use Rattle.gfx_frames.proofs.SoFar.{SoFar, so_far_all, so_far_more, so_far_none, so_far_part}
use Rattle.gfx_replay.specs.Held.{Bytes}
use Rattle.gfx_replay.specs.Shown.{IsThere}
use Rattle.gfx_replay.specs.declared.shown.ShownPicture.{ShownPicture}
use Rattle.gfx_fan.specs.declared.album.Album.{Album}
use Rattle.gfx_fan.specs.declared.begun.Begun.{Begun}
use Rattle.gfx_fan.specs.declared.shown.Caption.{Caption}
use Rattle.gfx_fan.specs.declared.shown.Shown.{Shown}
use Rattle.gfx_fan.specs.Kept.{GoesOn, IsBare, IsHeld, IsListed, IsSmall, TakesFrame, image_bytes, image_line, images, kept_lines, line_of, lines_of, newer, of_begun, of_shown, older}

-- ---- an image more

-- the line of an image that is kept is that of the image in its place
pub kept_line : (places : Bytes) (c : Caption) (p kept all : List ℕ) → p ≡ bytes_of places c.shown.place → all ≡ kept ++ digest_line (string_bytes c.title) c.shown (hex_text (sha256 p)) →
    all ≡ kept ++ line_of places c
unfolding first_line
kept_line places c p kept all pixels is = is ∙ ap (λ bytes. kept ++ digest_line (string_bytes c.title) c.shown (hex_text (sha256 bytes))) pixels

-- ---- how much is kept

-- an image has at most 2^26 bytes
pub few_bytes : (b : Bytes) (p : ShownPicture) → IsThere b p → length (bytes_of b p.place) ≤ 2 ^ 26
few_bytes b p there = by (b p.place) there.there
  where
    texel : (f : Format) → texel_of f ≤ 4
    texel R8Uint = omega arith
    texel _ = omega arith

    size : p.height * (p.width * texel_of p.format) ≤ 4096 * (4096 * 4)
    size = mul-le-mul there.high (mul-le-mul there.wide (texel p.format))

    by : (o : Option (List ℕ)) → IsSomeAnd o (λ all. length all ≡ p.height * (p.width * texel_of p.format)) → length (unwrap_or o []) ≤ 2 ^ 26
    by None is = absurd is
    by (Some all) is = omega (arith, is, size)

-- whether there is no room for a further image, as it is looked at
abbrev looks_full : (count size : ℕ) → Bool
looks_full count size = nat_le 32 count || nat_le 67108864 size

few_by : (count size : ℕ) → looks_full count size ≡ false → (count < 32) × (size < 2 ^ 26)
few_by count size under = (grind (arith, nat_tests), grind (arith, nat_tests))

pub is_small : (k : Album) → IsHeld k → looks_full (length k.shown.items) k.size ≡ false → IsSmall k
is_small k held under =
    let bounds = few_by (length k.shown.items) k.size under in
    record { held = held; few = bounds.0; small = bounds.1 }

pub bare_small : (k : Album) → IsBare k → IsSmall k
bare_small k bare = record {
  held = record {
    counted = bare.size ∙ ap (λ ss. image_bytes (newer ss)) (sym bare.shown);
    few = omega (arith, ap length bare.shown);
    small = omega (arith, bare.size);
    older_few = omega (arith, ap length bare.begun);
    older_small = subst (λ bs. image_bytes (older bs) < 2 ^ 27) (sym bare.begun) (omega arith);
  };
  few = omega (arith, ap length bare.shown);
  small = omega (arith, bare.size);
}

-- an album without images keeps no lines
pub bare_lines : (k : Album) → IsBare k → kept_lines k ≡ []
bare_lines k bare = ap (λ bs. lines_of (older bs ++ newer k.shown.items)) bare.begun ∙ ap (λ ss. lines_of (newer ss)) bare.shown

-- ---- the newer images are begun

older_drop : (n : ℕ) (bs : List Begun) → older (drop n bs) ≡ drop n (older bs)
older_drop n bs = sym (drop-map of_begun n bs)

-- once the older images are written, those that were newer are the older ones
pub turned : (old middle new : Album) → IsHeld old → images middle ≡ images old → middle.shown.items ≡ [] → middle.size ≡ 0 → new.shown.items ≡ middle.shown.items → new.size ≡ middle.size →
    new.begun.items ≡ drop (length old.begun.items) middle.begun.items → IsSmall new
turned old middle new was same bare none shown size dropped = record {
  held = record {
    counted = size ∙ none ∙ ap (λ ss. image_bytes (newer ss)) (sym empty);
    few = omega (arith, ap length empty);
    small = omega (arith, size, none);
    older_few = omega (arith, ap length left, length-map new.begun.items of_begun, length-map old.shown.items of_shown, was.few);
    older_small = subst (λ is. image_bytes is < 2 ^ 27) (sym left) (omega (arith, was.counted, was.small));
  };
  few = omega (arith, ap length empty);
  small = omega (arith, size, none);
}
  where
    empty : new.shown.items ≡ []
    empty = shown ∙ bare

    all : older middle.begun.items ≡ older old.begun.items ++ newer old.shown.items
    all = sym (append-nil (older middle.begun.items)) ∙ ap (λ ss. older middle.begun.items ++ newer ss) (sym bare) ∙ same

    count : length old.begun.items ≡ length (older old.begun.items)
    count = sym (length-map old.begun.items of_begun)

    left : older new.begun.items ≡ newer old.shown.items
    left = ap older dropped ∙ older_drop (length old.begun.items) middle.begun.items ∙ ap (drop (length old.begun.items)) all ∙ ap (λ n. drop n (older old.begun.items ++ newer old.shown.items)) count
        ∙ drop-append-le (length (older old.begun.items)) (older old.begun.items) (newer old.shown.items) (le_refl (length (older old.begun.items)))
        ∙ ap (λ l. l ++ newer old.shown.items) (drop_all (length (older old.begun.items)) (older old.begun.items) (le_refl (length (older old.begun.items))))

-- ---- the older images are written

-- the oldest image is the first of all
pub oldest_line : (bs cs : List Begun) (b : Begun) (ss : List Shown) → bs ≡ b ∷ cs → lines_of (older bs ++ newer ss) ≡ image_line (of_begun b) ++ lines_of (older cs ++ newer ss)
oldest_line bs cs b ss is = ap (λ l. lines_of (older l ++ newer ss)) is

-- behind the older ones the newer are left
lines_left : (bs cs : List Begun) (ss : List Shown) → cs ≡ drop (length bs) bs → lines_of (older cs ++ newer ss) ≡ lines_of (newer ss) ++ []
lines_left bs cs ss is = ap (λ l. lines_of (older l ++ newer ss)) (is ∙ drop_all (length bs) bs (le_refl (length bs))) ∙ sym (append-nil (lines_of (newer ss)))

pub left_part : (a b c : Option (List ℕ)) (text : List ℕ) (bs cs : List Begun) (ss : List Shown) → cs ≡ drop (length bs) bs → SoFar a b text (lines_of (older cs ++ newer ss)) → AppendsPart b c (lines_of (newer ss)) →
    AppendsPart a c text
left_part a b c text bs cs ss is s part = so_far_part a b c text (lines_of (newer ss)) [] (subst (SoFar a b text) (lines_left bs cs ss is) s) part

pub left_all : (a b c : Option (List ℕ)) (text : List ℕ) (bs cs : List Begun) (ss : List Shown) → cs ≡ drop (length bs) bs → SoFar a b text (lines_of (older cs ++ newer ss)) → Appends b c (lines_of (newer ss)) → Appends a c text
left_all a b c text bs cs ss is s took = so_far_all a c text (so_far_more a b c text (lines_of (newer ss)) [] (subst (SoFar a b text) (lines_left bs cs ss is) s) took)

-- a frame more leaves an album in order
pub goes_on : (old new : Album) (text : List ℕ) (a b : Option (List ℕ)) → IsListed old → TakesFrame old new text a b → GoesOn old new
goes_on old new text a b was took = record {
  listed = record { small = took.small; plain_is = ap (λ l. l.pixels) took.listing ∙ was.plain_is };
  count = omega (arith, took.count);
}

-- ---- the lines that are left to write

pub next_line : (ss : List Shown) (i : ℕ) (s : Shown) → i < length ss → s ≡ get_or ss i s → lines_of (newer (drop i ss)) ≡ image_line (of_shown s) ++ lines_of (newer (drop (i + 1) ss))
next_line ss i s below is =
    let next : suc i ≡ i + 1 = omega arith in
    ap (λ l. lines_of (newer l)) (drop-cons ss i s below ∙ ap (λ x. x ∷ drop (suc i) ss) (sym is)) ∙ ap (λ n. image_line (of_shown s) ++ lines_of (newer (drop n ss))) next

-- the line that is written of an image, by the digest in its place
pub written_line : (ss : List Shown) (ds : List (List ℕ)) (i : ℕ) (s : Shown) → i < length ss → ds ≡ map (λ s. sha256 s.pixels) ss → s ≡ get_or ss i s →
    digest_line (string_bytes s.caption.title) s.caption.shown (hex_text (get_or ds i [])) ≡ image_line (of_shown s)
written_line ss ds i s below is here =
    ap (λ d. digest_line (string_bytes s.caption.title) s.caption.shown (hex_text d))
    (ap (λ l. get_or l i []) is ∙ get_or-map (λ s. sha256 s.pixels) ss i s [] below ∙ ap (λ s. sha256 s.pixels) (sym here))

-- ---- the images of a frame that are left

-- what is kept, and the lines that are to come, with those of the next image before these
pub next_kept : (places : Bytes) (l : Listing) (number i : ℕ) (ps : List ShownPicture) (d : ShownPicture) (title kept : List ℕ) → i < length ps → l.pixels ≡ false →
    title ≡ title_of l.minor number (1 + i) → kept ++ lines_from places l number (1 + i) (drop i ps) ≡ (kept ++ first_line places title (get_or ps i d)) ++ lines_from places l number (1 + (i + 1)) (drop (i + 1) ps)
next_kept places l number i ps d title kept below plain is =
    let rest = lines_from places l number (1 + (i + 1)) (drop (i + 1) ps) in
    ap (λ t. kept ++ t) (next_lines places l number i ps d title below is ∙ ap (λ t. t ++ rest) (without_rows places l.pixels title (get_or ps i d) plain))
    ∙ sym (append_assoc kept (first_line places title (get_or ps i d)) rest)

-- no image is left
pub last_kept : (places : Bytes) (l : Listing) (number i : ℕ) (ps : List ShownPicture) (kept : List ℕ) → length ps ≤ i → kept ++ lines_from places l number (1 + i) (drop i ps) ≡ kept
last_kept places l number i ps kept past = ap (λ rest. kept ++ lines_from places l number (1 + i) rest) (drop_all i ps past) ∙ append-nil kept

-- ---- what the sink took, and what is kept

-- a text of which some is kept goes on, and so does what is kept of it
pub so_far_on : (a b c : Option (List ℕ)) (text kept more left : List ℕ) → SoFar a b text kept → SoFar b c (kept ++ more) left → SoFar a c (text ++ more) left
so_far_on a b c text kept more left s t = record {
  done = s.done ++ t.done;
  took = appends_then a b c s.done t.done s.took t.took;
  parts = ap (λ l. l ++ more) s.parts ∙ append_assoc s.done kept more ∙ ap (λ l. s.done ++ l) t.parts ∙ sym (append_assoc s.done t.done left);
}

pub part_on : (a b c : Option (List ℕ)) (text kept more : List ℕ) → SoFar a b text kept → AppendsPart b c (kept ++ more) → AppendsPart a c (text ++ more)
part_on a b c text kept more s part =
    subst (AppendsPart a c) (sym (ap (λ l. l ++ more) s.parts ∙ append_assoc s.done kept more)) (part_then a b c s.done (kept ++ more) s.took part)

-- the same, with what is still to come behind what is kept
pub so_far_step : (a b c : Option (List ℕ)) (text kept more rest left : List ℕ) → SoFar a b text ((kept ++ more) ++ rest) → SoFar b c (kept ++ more) left → SoFar a c text (left ++ rest)
so_far_step a b c text kept more rest left s t = record {
  done = s.done ++ t.done;
  took = appends_then a b c s.done t.done s.took t.took;
  parts = s.parts ∙ ap (λ l. s.done ++ (l ++ rest)) t.parts ∙ ap (λ l. s.done ++ l) (append_assoc t.done left rest) ∙ sym (append_assoc s.done t.done (left ++ rest));
}

-- of what is kept nothing was written
pub so_far_kept : (a : Option (List ℕ)) (text left : List ℕ) → left ≡ text → SoFar a a text left
so_far_kept a text left is = subst (SoFar a a text) (sym is) (so_far_none a text)

-- ---- the bytes of a place

pub some_there : (o : Option (List ℕ)) (P : List ℕ → Type 0) → IsSomeAnd o P → IsSome o
some_there None P there = absurd there
some_there (Some all) P there = refl
