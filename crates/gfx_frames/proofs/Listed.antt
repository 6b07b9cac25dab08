-- The lines of images, as they are written.
use Rattle.std.proofs.Common.{◌≡◌, ℕ, ◌+◌, ◌<◌, suc, drop, get_or, drop-cons, arith, Bool, true, false, if◌then◌else◌, List, [], ◌∷◌, ◌++◌, map, length, codes, decimal, refl, sym, ap, ◌∙◌, append_assoc}
use Rattle.std.specs.Prelude.{flat_map}
use Rattle.std.specs.List.{enumerate_from}
use Rattle.std.proofs.lemmas.List.{append-nil}
use Rattle.sha2.specs.Sha256.{sha256}
use Rattle.gfx_types.specs.Names.{format_name}
use Rattle.gfx_model.specs.Text.{line, hex_text, title_of, picture_lines}
use Rattle.gfx_frames.specs.declared.lines.Listing.{Listing}
use Rattle.gfx_replay.specs.declared.shown.ShownFrame.{ShownFrame}
use Rattle.gfx_replay.specs.declared.shown.ShownPicture.{ShownPicture}
use Rattle.gfx_replay.specs.Held.{Bytes}
use Rattle.gfx_replay.specs.Shown.{picture_of}
use Rattle.gfx_frames.specs.Texts.{bytes_of, digest_line, first_line, rows_of, lines_of, text_of}

-- the line of an image, however its parts are grouped
flat : (title w h n d : List ℕ) →
    codes "frame " ++ (title ++ (codes " " ++ ((w ++ (codes "x" ++ h)) ++ (codes " " ++ (n ++ (codes " " ++ (d ++ 10 ∷ [])))))))
    ≡ line (codes "frame " ++ title ++ codes " " ++ w ++ codes "x" ++ h ++ codes " " ++ n ++ codes " " ++ d)
flat title w h n d = simp append_assoc

lines_are : (places : Bytes) (pixels : Bool) (title : List ℕ) (p : ShownPicture) →
    lines_of places pixels title p ≡ first_line places title p ++ (if pixels then rows_of places p else [])
unfolding lines_of first_line digest_line rows_of
lines_are places pixels title p =
    ap (λ l. l ++ (if pixels then rows_of places p else []))
    (sym (flat title (decimal p.width) (decimal p.height) (format_name p.format) (hex_text (sha256 (bytes_of places p.place)))))

pub with_rows : (places : Bytes) (pixels : Bool) (title : List ℕ) (p : ShownPicture) → pixels ≡ true → lines_of places pixels title p ≡ first_line places title p ++ rows_of places p
with_rows places pixels title p is = ap (λ b. lines_of places b title p) is ∙ lines_are places true title p

pub without_rows : (places : Bytes) (pixels : Bool) (title : List ℕ) (p : ShownPicture) → pixels ≡ false → lines_of places pixels title p ≡ first_line places title p
without_rows places pixels title p is = ap (λ b. lines_of places b title p) is ∙ lines_are places false title p ∙ append-nil (first_line places title p)

-- all begin with the first line
pub lines_front : (places : Bytes) (pixels : Bool) (title : List ℕ) (p : ShownPicture) → (rest : List ℕ) × (lines_of places pixels title p ≡ first_line places title p ++ rest)
lines_front places pixels title p = ((if pixels then rows_of places p else []), lines_are places pixels title p)

-- ---- the images of a frame

-- the lines of images, numbered from k on
abbrev pub lines_from : Bytes → Listing → ℕ → ℕ → List ShownPicture → List ℕ
lines_from places l number k [] = []
lines_from places l number k (p ∷ ps) = lines_of places l.pixels (title_of l.minor number k) p ++ lines_from places l number (k + 1) ps

numbered : (places : Bytes) (l : Listing) (number k : ℕ) (ps : List ShownPicture) →
    lines_from places l number k ps
    ≡ flat_map (λ q. picture_lines sha256 l.pixels (title_of l.minor number q.0) q.1) (enumerate_from k (map (picture_of places) ps))
unfolding lines_of
numbered places l number k [] = refl
numbered places l number k (p ∷ ps) = ap (λ t. picture_lines sha256 l.pixels (title_of l.minor number k) (picture_of places p) ++ t) (numbered places l number (k + 1) ps)

pub text_is : (places : Bytes) (l : Listing) (f : ShownFrame) → text_of places l f ≡ lines_from places l f.number 1 f.pictures.items
unfolding text_of
text_is places l f = sym (numbered places l f.number 1 f.pictures.items)

-- the lines that are left, with those of the next image before it
pub next_lines : (places : Bytes) (l : Listing) (number i : ℕ) (ps : List ShownPicture) (d : ShownPicture) (title : List ℕ) → i < length ps → title ≡ title_of l.minor number (1 + i) →
    lines_from places l number (1 + i) (drop i ps) ≡ lines_of places l.pixels title (get_or ps i d) ++ lines_from places l number (1 + (i + 1)) (drop (i + 1) ps)
next_lines places l number i ps d title below is =
    let later : 1 + i + 1 ≡ 1 + (i + 1) = omega arith in
    let next : suc i ≡ i + 1 = omega arith in
    let rest = λ (k j : ℕ). lines_from places l number k (drop j ps) in
    ap (lines_from places l number (1 + i)) (drop-cons ps i d below)
    ∙ ap (λ t. lines_of places l.pixels t (get_or ps i d) ++ rest (1 + i + 1) (suc i)) (sym is)
    ∙ ap (λ k. lines_of places l.pixels title (get_or ps i d) ++ rest k (suc i)) later
    ∙ ap (λ j. lines_of places l.pixels title (get_or ps i d) ++ rest (1 + (i + 1)) j) next
