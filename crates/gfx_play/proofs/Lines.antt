-- The lines of frames, one frame after another.
use Rattle.std.proofs.Common.{◌≡◌, ◌⊎◌, inl, inr, codes, ℕ, Bool, true, false, if◌then◌else◌, List, [], ◌∷◌, ◌++◌, length, Option, refl, sym, ap, subst, ◌∙◌, append_assoc}
use Rattle.std.specs.Io.KnownBytes.{Appends}
use Rattle.std.proofs.lemmas.List.{append-nil}
use Rattle.std.proofs.lemmas.Grind.{flat_map-append}
use Rattle.sha2.specs.Sha256.{sha256}
use Rattle.gfx_io.specs.Pieces.{AppendsPart}
use Rattle.gfx_types.specs.declared.frame.Frame.{Frame}
use Rattle.gfx_model.specs.Blocks.{minor_of}
use Rattle.gfx_model.specs.Text.{frame_lines, count_line}
use Rattle.gfx_frames.specs.Texts.{text_of}
use Rattle.gfx_frames.specs.declared.lines.Listing.{Listing}
use Rattle.gfx_io.proofs.Appending.{appends_then, part_of, part_then}
use Rattle.gfx_replay.specs.Replayer.{bytes_of}
use Rattle.gfx_replay.specs.Shown.{frame_of}
use Rattle.gfx_replay.specs.declared.shown.ShownFrame.{ShownFrame}
use Rattle.gfx_player.specs.declared.asked.Asked.{Asked}
use Rattle.gfx_player.specs.declared.player.Player.{Player}
use Rattle.gfx_player.specs.Asked.{asked_of, is_asked}
use Rattle.gfx_player.specs.Ends.{ShowsFirst}
use Rattle.gfx_player.specs.Meanings.{frames_in}
use Rattle.gfx_player.specs.Walks.{Plays, first_frame_of}
use Rattle.gfx_player.proofs.Asking.{asked_front, asked_more, first_with, if_asked}
use Rattle.gfx_player.proofs.Playing.{first_is}
use Rattle.gfx_play.specs.declared.screen.Screen.{Screen}
use Rattle.gfx_play.specs.Screens.{lines_of, text_by}
use Rattle.gfx_play.specs.Shows.{text_in}

-- the listing of a file
abbrev pub listing_of : ℕ → Bool → Listing
listing_of m pixels = record { minor = m; pixels = pixels }

lines_more : (l : Listing) (xs ys : List Frame) → lines_of l (xs ++ ys) ≡ lines_of l xs ++ lines_of l ys
unfolding lines_of
lines_more l xs ys = flat_map-append (frame_lines l.minor sha256 l.pixels) xs ys

pub lines_none : (l : Listing) → lines_of l [] ≡ []
unfolding lines_of
lines_none l = refl

-- the lines of a frame, where it is asked for
lines_picked : (l : Listing) (t : Bool) (f : Frame) → (if t then frame_lines l.minor sha256 l.pixels f else []) ≡ lines_of l (if_asked t f)
unfolding lines_of
lines_picked l true f = sym (append-nil (frame_lines l.minor sha256 l.pixels f))
lines_picked l false f = refl

text_picked : (s : Screen) (p : Player) (f : ShownFrame) → text_by s p f ≡ lines_of s.listing (if_asked (is_asked s.asked (first_frame_of p) f.number) (frame_of (bytes_of p.replayer) f))
unfolding text_of
text_picked s p f = lines_picked s.listing (is_asked s.asked (first_frame_of p) f.number) (frame_of (bytes_of p.replayer) f)

-- the lines with those of the frame that is shown next
pub lines_then : (a : Asked) (s : Screen) (l : Listing) (p : Player) (shown : List Frame) (f : ShownFrame) (file left : Option (List ℕ)) → Plays p (shown ++ frame_of (bytes_of p.replayer) f ∷ []) file left →
    s.asked ≡ a → s.listing ≡ l → lines_of l (asked_of a shown) ++ text_by s p f ≡ lines_of l (asked_of a (shown ++ frame_of (bytes_of p.replayer) f ∷ []))
lines_then a s l p shown f file left plays asked listing =
    let g = frame_of (bytes_of p.replayer) f in
    ap (λ xs. lines_of l (asked_of a shown) ++ xs)
    (text_picked s p f ∙ ap (λ l. lines_of l (if_asked (is_asked s.asked (first_frame_of p) f.number) g)) listing
    ∙ ap (λ a. lines_of l (if_asked (is_asked a (first_frame_of p) f.number) g)) asked
    ∙ ap (λ n. lines_of l (if_asked (is_asked a n f.number) g)) (first_is p shown g file left plays))
    ∙ sym (lines_more l (asked_of a shown) (if_asked (is_asked a (first_with shown f.number) f.number) g))
    ∙ ap (lines_of l) (sym (asked_more a shown g))

-- where there are no frames, the version doesn't matter
pub lines_in_version : (a : Asked) (pixels : Bool) (m n : ℕ) (shown : List Frame) → (shown ≡ []) ⊎ (m ≡ n) → lines_of (listing_of m pixels) (asked_of a shown) ≡ lines_of (listing_of n pixels) (asked_of a shown)
lines_in_version a pixels m n shown (inl none) =
    ap (λ fs. lines_of (listing_of m pixels) (asked_of a fs)) none ∙ lines_none (listing_of m pixels) ∙ sym (lines_none (listing_of n pixels))
    ∙ ap (λ fs. lines_of (listing_of n pixels) (asked_of a fs)) (sym none)
lines_in_version a pixels m n shown (inr same) = ap (λ m. lines_of (listing_of m pixels) (asked_of a shown)) same

-- the text of a file: the lines of all frames, and their number
text_is : (a : Asked) (pixels : Bool) (all : List ℕ) → lines_of (listing_of (minor_of all) pixels) (asked_of a (frames_in all)) ++ count_line (codes "frames") (length (asked_of a (frames_in all))) ≡ text_in a pixels all
unfolding lines_of
text_is a pixels all = refl

-- the lines of the first frames are a prefix of it
pub lines_front : (a : Asked) (pixels : Bool) (shown : List Frame) (all : List ℕ) (before after : Option (List ℕ)) → ShowsFirst shown all →
    AppendsPart before after (lines_of (listing_of (minor_of all) pixels) (asked_of a shown)) → AppendsPart before after (text_in a pixels all)
lines_front a pixels shown all before after s part =
    let l = listing_of (minor_of all) pixels in
    let f = asked_front a shown s.later in
    let number = count_line (codes "frames") (length (asked_of a (frames_in all))) in
    subst (AppendsPart before after)
    (sym (append_assoc (lines_of l (asked_of a shown)) (lines_of l f.more) number)
    ∙ ap (λ xs. xs ++ number) (sym (lines_more l (asked_of a shown) f.more) ∙ ap (lines_of l) (sym (ap (asked_of a) s.is ∙ f.is)))
    ∙ text_is a pixels all)
    (part_of before after (lines_of l (asked_of a shown)) (lines_of l f.more ++ number) part)

-- the lines of all frames that are asked for, and their number
text_so : (a : Asked) (pixels : Bool) (shown : List Frame) (n : ℕ) (all : List ℕ) → asked_of a (frames_in all) ≡ asked_of a shown → n ≡ length (asked_of a shown) →
    lines_of (listing_of (minor_of all) pixels) (asked_of a shown) ++ count_line (codes "frames") n ≡ text_in a pixels all
text_so a pixels shown n all same count =
    ap (λ n. lines_of (listing_of (minor_of all) pixels) (asked_of a shown) ++ count_line (codes "frames") n) count
    ∙ ap (λ fs. lines_of (listing_of (minor_of all) pixels) fs ++ count_line (codes "frames") (length fs)) (sym same)
    ∙ text_is a pixels all

pub text_whole : (a : Asked) (pixels : Bool) (shown : List Frame) (n : ℕ) (all : List ℕ) (before middle after : Option (List ℕ)) → asked_of a (frames_in all) ≡ asked_of a shown → n ≡ length (asked_of a shown) →
    Appends before middle (lines_of (listing_of (minor_of all) pixels) (asked_of a shown)) → Appends middle after (count_line (codes "frames") n) → Appends before after (text_in a pixels all)
text_whole a pixels shown n all before middle after same count lines number = subst (Appends before after) (text_so a pixels shown n all same count) (appends_then before middle after _ _ lines number)

pub text_part : (a : Asked) (pixels : Bool) (shown : List Frame) (n : ℕ) (all : List ℕ) (before middle after : Option (List ℕ)) → asked_of a (frames_in all) ≡ asked_of a shown → n ≡ length (asked_of a shown) →
    Appends before middle (lines_of (listing_of (minor_of all) pixels) (asked_of a shown)) → AppendsPart middle after (count_line (codes "frames") n) → AppendsPart before after (text_in a pixels all)
text_part a pixels shown n all before middle after same count lines number = subst (AppendsPart before after) (text_so a pixels shown n all same count) (part_then before middle after _ _ lines number)
