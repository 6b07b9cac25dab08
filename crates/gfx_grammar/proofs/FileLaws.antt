-- A file of a section that is made and of blocks that are copied is read again.
use Rattle.std.proofs.Common.{◌≡◌, ℕ, ◌+◌, ◌^◌, ◌≤◌, true, false, not, ◌&&◌, ◌||◌, cond, List, [], ◌∷◌, ◌++◌, length, map, refl, sym, ap, subst, ◌∙◌, arith, append_assoc}
use Rattle.std.specs.Prelude.{flat_map}
use Rattle.std.specs.List.{AllByRecursion}
use Rattle.std.proofs.lemmas.List.{length-map}
use Rattle.gfx_model.specs.Events.{Event}
use Rattle.gfx_model.specs.Events.Event.{BeginSection, EndSection}
use Rattle.gfx_model.specs.Spelling.{encoding, header}
use Rattle.gfx_model.specs.Blocks.{Position, Whole, first_position, is_marker, is_inside, side_count, next_position}
use Rattle.gfx_grammar.specs.Reads.{AreBytes}
use Rattle.gfx_grammar.specs.Splitting.{blocks_of}
use Rattle.gfx_grammar.specs.Framing.{IsBlock, Part, place_after, HaveRoom, CanBeWritten, made_part, part_of, file_parts, IsUnmarked, says_begin}
use Rattle.gfx_grammar.specs.Laws.{FileIsRead, FileHasRoom}
use Rattle.gfx_grammar.proofs.SaidLaws.{block-says}
use Rattle.gfx_grammar.proofs.RoomLaws.{room-append, inside-room, outside-room}
use Rattle.gfx_grammar.proofs.WrittenLaws.{encoding-block, encoding-says, header-good, header-minor, blocks_of-parts}

-- ---- the parts of the file

both-all : {X : Type 0} (P : X → Type 0) (xs ys : List X) → AllByRecursion P xs → AllByRecursion P ys → AllByRecursion P (xs ++ ys)
both-all P [] ys p q = q
both-all P (x ∷ xs) ys p q = (p.0, both-all P xs ys p.1 q)

made-blocks : (m : ℕ) (made : List Event) → AllByRecursion (CanBeWritten m 0) made → AllByRecursion (λ p. IsBlock m p.bytes p.content) (map (made_part m) made)
made-blocks m [] can = tt
made-blocks m (e ∷ es) can = (encoding-block m 0 e can.0, made-blocks m es can.1)

standing-blocks : (m : ℕ) (ws : List Whole) → AllByRecursion (λ w. IsBlock m w.bytes w.content) ws → AllByRecursion (λ p. IsBlock m p.bytes p.content) (map part_of ws)
standing-blocks m [] are = tt
standing-blocks m (w ∷ ws) are = (are.0, standing-blocks m ws are.1)

standing-text : (ws : List Whole) → flat_map (λ (p : Part). p.bytes) (map part_of ws) ≡ flat_map (λ (w : Whole). w.bytes) ws
standing-text [] = refl
standing-text (w ∷ ws) = ap (λ (xs : List ℕ). w.bytes ++ xs) (standing-text ws)

parts-text : (m : ℕ) (made : List Event) (ws : List Whole)
    → flat_map (λ (p : Part). p.bytes) (file_parts m made ws) ≡ flat_map (encoding m 0) made ++ flat_map (λ (w : Whole). w.bytes) ws
parts-text m [] ws = standing-text ws
parts-text m (e ∷ es) ws = ap (λ (xs : List ℕ). encoding m 0 e ++ xs) (parts-text m es ws) ∙ sym (append_assoc (encoding m 0 e) (flat_map (encoding m 0) es) (flat_map (λ (w : Whole). w.bytes) ws))

append-text : (a b c : List ℕ) → blocks_of ((a ++ b) ++ c) ≡ blocks_of (a ++ (b ++ c))
append-text a b c = ap blocks_of (append_assoc a b c)

pub file_is_read : FileIsRead
file_is_read m made ws version can are room =
    let ps = file_parts m made ws in
    let blocks = both-all (λ (p : Part). IsBlock m p.bytes p.content) (map (made_part m) made) (map part_of ws) (made-blocks m made can) (standing-blocks m ws are) in
    append-text (header m) (flat_map (encoding m 0) made) (flat_map (λ (w : Whole). w.bytes) ws)
    ∙ ap (λ (xs : List ℕ). blocks_of (header m ++ xs)) (sym (parts-text m made ws))
    ∙ blocks_of-parts (header m) ps (header-good m version)
    (subst (λ m'. AllByRecursion (λ p. IsBlock m' p.bytes p.content) ps) (sym (header-minor m version)) blocks) room

-- ---- its room

made-unmarked : (m : ℕ) (made : List Event) → AllByRecursion (CanBeWritten m 0) made → AllByRecursion IsUnmarked made → AllByRecursion (λ p. is_marker 2 p.bytes ≡ false) (map (made_part m) made)
made-unmarked m [] can none = tt
made-unmarked m (e ∷ es) can none = ((encoding-says m 0 e can.0).1 ∙ none.0.1, made-unmarked m es can.1 none.1)

standing-unbegun : (m : ℕ) (ws : List Whole) → AllByRecursion (λ w. IsBlock m w.bytes w.content × AreBytes w.bytes × (says_begin w.content ≡ false)) ws
    → AllByRecursion (λ p. is_marker 1 p.bytes ≡ false) (map part_of ws)
standing-unbegun m [] are = tt
standing-unbegun m (w ∷ ws) are = ((block-says m w.bytes w.content are.0.1 are.0.0).0 ∙ are.0.2, standing-unbegun m ws are.1)

-- at a begin marker the section begins
enters : (at : Position) (p : List ℕ) → at.in_section ≡ false → is_marker 1 p ≡ true → is_marker 2 p ≡ false
    → (side_count at p ≡ at.inside) × ((next_position at p).in_section ≡ true) × ((next_position at p).inside ≡ at.inside + 1) × ((next_position at p).outside ≡ at.outside)
enters at p without begins stays =
    let here : is_inside at p ≡ true = ap (λ b. b || is_marker 1 p) without ∙ begins in (
      ap (λ b. cond b at.inside at.outside) here,
      ap (λ b. b && not (is_marker 2 p)) here ∙ ap not stays,
      ap (λ b. cond b (at.inside + 1) at.inside) here,
      ap (λ b. cond b at.outside (at.outside + 1)) here,
    )

-- and it ends behind an end marker
leaves : (at : Position) (p : List ℕ) → at.in_section ≡ true → is_marker 2 p ≡ true
    → (side_count at p ≡ at.inside) × ((next_position at p).in_section ≡ false) × ((next_position at p).outside ≡ at.outside)
leaves at p within ends =
    let here : is_inside at p ≡ true = ap (λ b. b || is_marker 1 p) within in (
      ap (λ b. cond b at.inside at.outside) here,
      ap (λ b. b && not (is_marker 2 p)) here ∙ ap not ends,
      ap (λ b. cond b at.outside (at.outside + 1)) here,
    )

all-parts : {X : Type 0} (P : X → Type 0) (xs ys : List X) → AllByRecursion P (xs ++ ys) → AllByRecursion P xs × AllByRecursion P ys
all-parts P [] ys h = (tt, h)
all-parts P (x ∷ xs) ys h = let parts = all-parts P xs ys h.1 in ((h.0, parts.0), parts.1)

made-ended : (m : ℕ) (made : List Event) (e : Event) (qs : List Part) → map (made_part m) (made ++ e ∷ []) ++ qs ≡ map (made_part m) made ++ (made_part m e ∷ qs)
made-ended m [] e qs = refl
made-ended m (f ∷ made) e qs = ap (λ (ps : List Part). made_part m f ∷ ps) (made-ended m made e qs)

section-room : (m n : ℕ) (at : Position) (made : List Event) (ws : List Whole) → at.in_section ≡ false → at.inside ≡ 0 → at.outside ≡ 0
    → CanBeWritten m 0 (BeginSection n) → AllByRecursion (CanBeWritten m 0) made → CanBeWritten m 0 (EndSection n) → AllByRecursion IsUnmarked made → length made + 2 ≤ 2 ^ 32
    → AllByRecursion (λ w. IsBlock m w.bytes w.content × AreBytes w.bytes × (says_begin w.content ≡ false)) ws → length ws ≤ 2 ^ 32
    → HaveRoom at (made_part m (BeginSection n) ∷ (map (made_part m) made ++ (made_part m (EndSection n) ∷ map part_of ws)))
section-room m n at made ws without empty nothing begin can end none few are little =
    let begins = encoding-says m 0 (BeginSection n) begin in
    let ends = encoding-says m 0 (EndSection n) end in
    let open_at = next_position at (encoding m 0 (BeginSection n)) in
    let entered = enters at (encoding m 0 (BeginSection n)) without begins.0 begins.1 in
    let filled = inside-room open_at (map (made_part m) made) entered.1 (made-unmarked m made can none) (omega (arith, entered.2, empty, few, length-map made (made_part m))) in
    let full_at = place_after open_at (map (made_part m) made) in
    let left = leaves full_at (encoding m 0 (EndSection n)) filled.1 ends.1 in
    let outside_at = next_position full_at (encoding m 0 (EndSection n)) in
    let behind = outside-room outside_at (map part_of ws) left.1 (standing-unbegun m ws are) (omega (arith, left.2, filled.3, entered.3, nothing, little, length-map ws part_of)) in (
      omega (arith, entered.0, empty),
      room-append open_at (map (made_part m) made) (made_part m (EndSection n) ∷ map part_of ws) filled.0
          (omega (arith, left.0, filled.2, entered.2, empty, few, length-map made (made_part m)), behind.0),
    )

pub file_has_room : FileHasRoom
file_has_room m n made ws can none few are little =
    let parts = all-parts (CanBeWritten m 0) made (EndSection n ∷ []) can.1 in
    let at = first_position (header m) in
    subst (λ (ps : List Part). HaveRoom at (made_part m (BeginSection n) ∷ ps)) (sym (made-ended m made (EndSection n) (map part_of ws)))
    (section-room m n at made ws refl refl refl can.0 parts.0 parts.1.0 none few are little)
