-- What is read of a listing is a file with this listing, and the listing of a file is read: so two files with one listing are equal.
use Rattle.std.proofs.Common.{◌≡◌, ℕ, zero, suc, ◌+◌, ◌*◌, ◌<◌, ◌≤◌, nat_lt, true, false, List, [], ◌∷◌, ◌++◌, length, take, drop, map, flat_map, Option, Some, None, refl, sym, ap, subst, ◌∙◌, arith, take-append-drop, codes, decimal}
use Rattle.std.proofs.lemmas.Option.{cond_some}
use Rattle.std.specs.List.{AllByRecursion, join_with_byte}
use Rattle.std.proofs.lemmas.Bool.{cond-true, lt-ltb, ltb-true, and_parts, and_from}
use Rattle.std.proofs.lemmas.List.{length-take-le}
use Rattle.gfx_types.specs.declared.names.Fault.{Fault}
use Rattle.gfx_model.specs.Text.{line}
use Rattle.gfx_feature_model.specs.Listing.{option_texts, header_text, block_text, listing_of}
use Rattle.gfx_model.specs.Blocks.{u32_at, header_fault, header_length, minor_of, option_count, options_fault, Position, side_count, next_position, first_position, Whole, clean, bad}
use Rattle.gfx_grammar.specs.Reading.{◌>>=◌}
use Rattle.gfx_grammar.specs.Reads.{AreBytes}
use Rattle.gfx_grammar.proofs.NumberLaws.{bind_some, some_is, all_bytes, AreBytes-take, AreBytes-drop}
use Rattle.gfx_grammar.specs.Splitting.{Blocks, blocks_of, blocks_from}
use Rattle.gfx_grammar.specs.Framing.{start_fault, IsHeader, IsBlock, Part, part_of, placed, HaveRoom, Splits}
use Rattle.gfx_grammar.proofs.FramingLaws.{u32_at-append}
use Rattle.gfx_grammar.proofs.HeaderLaws.{header_good, minor_of-append, option_count-append, start_fault-append, options_fault-append, blocks_of-good, blocks_of-bad}
use Rattle.gfx_grammar.proofs.BlockLaws.{ends_are_computed}
use Rattle.gfx_grammar.proofs.SplitLaws.{splits_in_one_way}
use Rattle.gfx_grammar.proofs.WrittenLaws.{blocks_of-parts}
use Rattle.gfx_text_grammar.specs.Splits.{is_without, whole_lines, each_read}
use Rattle.gfx_text_grammar.specs.Lines.{read_line}
use Rattle.gfx_text_grammar.specs.Listings.{read_header, Listed, file_of, blocks_in, has_room, if_room, read_lines, read_listing}
use Rattle.gfx_text_grammar.proofs.SplitLaws.{lines_takes, lines_again, each_takes, each_again}
use Rattle.gfx_grammar.proofs.ByteLaws.{are_bytes, both_bytes, AllBytes}
use Rattle.gfx_text_grammar.proofs.HeaderLaws.{header_takes, header_again, header_no_feed}
use Rattle.gfx_text_grammar.proofs.LineLaws.{line_takes, line_again, line_no_feed}
use Rattle.gfx_text_grammar.proofs.Lists.{all_parts}
use Rattle.gfx_model.specs.Limits.{max_side_blocks}

-- ---- parts and whole blocks

room_takes : (at : Position) (ps : List Part) → has_room at ps ≡ true → HaveRoom at ps
room_takes at [] h = tt
room_takes at (p ∷ ps) h =
    let b = and_parts (nat_lt (side_count at p.bytes) max_side_blocks) (has_room (next_position at p.bytes) ps) h in
    (ltb-true _ _ b.0, room_takes (next_position at p.bytes) ps b.1)

room_again : (at : Position) (ps : List Part) → HaveRoom at ps → has_room at ps ≡ true
room_again at [] h = refl
room_again at (p ∷ ps) h = and_from _ _ (lt-ltb _ _ h.0) (room_again (next_position at p.bytes) ps h.1)

abbrev bytes_of_parts : List Part → List ℕ
bytes_of_parts ps = flat_map (λ p. p.bytes) ps

-- the lines of parts
abbrev part_lines : ℕ → List Part → List (List ℕ)
part_lines m ps = map (λ p. block_text m p.bytes p.content) ps

placed_lines : (m : ℕ) (at : Position) (ps : List Part) → flat_map (λ w. line (block_text m w.bytes w.content)) (placed at ps) ≡ flat_map line (part_lines m ps)
placed_lines m at [] = refl
placed_lines m at (p ∷ ps) = ap (λ (z : List ℕ). line (block_text m p.bytes p.content) ++ z) (placed_lines m (next_position at p.bytes) ps)

-- what follows a header does not matter for its line
options-append : (n at : ℕ) (bytes rest : List ℕ) → at + 8 * n ≤ length bytes → option_texts (bytes ++ rest) at n ≡ option_texts bytes at n
options-append zero at bytes rest there = refl
options-append (suc n) at bytes rest there =
    ap (λ k. (decimal k ++ codes "=" ++ decimal (u32_at (bytes ++ rest) (at + 4))) ∷ option_texts (bytes ++ rest) (at + 8) n) (u32_at-append at bytes rest (omega (arith, there)))
    ∙ ap (λ k. (decimal (u32_at bytes at) ++ codes "=" ++ decimal k) ∷ option_texts (bytes ++ rest) (at + 8) n) (u32_at-append (at + 4) bytes rest (omega (arith, there)))
    ∙ ap (λ (z : List (List ℕ)). (decimal (u32_at bytes at) ++ codes "=" ++ decimal (u32_at bytes (at + 4))) ∷ z) (options-append n (at + 8) bytes rest (omega (arith, there)))

header-append : (bytes rest : List ℕ) → IsHeader bytes → header_text (bytes ++ rest) ≡ header_text bytes
header-append bytes rest h =
    let count = option_count-append bytes rest h.there in
    ap (λ n. join_with_byte 32 (codes "gfxr" ∷ (codes "1000." ++ decimal n) ∷ option_texts (bytes ++ rest) 16 (option_count (bytes ++ rest)))) (minor_of-append bytes rest h.there)
    ∙ ap (λ n. join_with_byte 32 (codes "gfxr" ∷ (codes "1000." ++ decimal (minor_of bytes)) ∷ option_texts (bytes ++ rest) 16 n)) count
    ∙ ap (λ (z : List (List ℕ)). join_with_byte 32 (codes "gfxr" ∷ (codes "1000." ++ decimal (minor_of bytes)) ∷ z)) (options-append (option_count bytes) 16 bytes rest (omega (arith, h.long)))

-- the listing of a header and parts
listing_parts : (header : List ℕ) (ps : List Part) → IsHeader header
    → listing_of (header ++ bytes_of_parts ps) (placed (first_position header) ps) ≡ flat_map line (header_text header ∷ part_lines (minor_of header) ps)
listing_parts header ps h =
    let bytes = header ++ bytes_of_parts ps in
    ap (λ (z : List ℕ). line z ++ flat_map (λ w. line (block_text (minor_of bytes) w.bytes w.content)) (placed (first_position header) ps)) (header-append header (bytes_of_parts ps) h)
    ∙ ap (λ n. line (header_text header) ++ flat_map (λ w. line (block_text n w.bytes w.content)) (placed (first_position header) ps)) (minor_of-append header (bytes_of_parts ps) h.there)
    ∙ ap (λ (z : List ℕ). line (header_text header) ++ z) (placed_lines (minor_of header) (first_position header) ps)

-- ---- what is read of a listing

abbrev PartIs : ℕ → Part → Type 0
PartIs m p = IsBlock m p.bytes p.content × AreBytes p.bytes

blocks_are : (m : ℕ) (ps : List Part) → AllByRecursion (PartIs m) ps → AllByRecursion (λ p. IsBlock m p.bytes p.content) ps × AllBytes (bytes_of_parts ps)
blocks_are m [] h = (tt, tt)
blocks_are m (p ∷ ps) h = let more = blocks_are m ps h.1 in ((h.0.0, more.0), both_bytes p.bytes (bytes_of_parts ps) (all_bytes p.bytes h.0.1) more.1)

-- the file that a listing lists, its blocks and its listing
pub record IsListed (l : Listed) (text : List ℕ) : Type 0 where
  pub bytes : AreBytes (file_of l)
  pub blocks : blocks_of (file_of l) ≡ record { items = blocks_in l; end = clean }
  pub same : text ≡ listing_of (file_of l) (blocks_in l)

pub listing_takes : (text : List ℕ) (l : Listed) → read_listing text ≡ Some l → IsListed l text
unfolding read_listing read_lines
listing_takes text l is =
    let a = bind_some (whole_lines text) read_lines l is in
    subst (λ (z : List ℕ). IsListed l z) (sym (lines_takes text a.0 a.1)) (by a.0 a.2)
  where
    by : (ls : List (List ℕ)) → read_lines ls ≡ Some l → IsListed l (flat_map line ls)
    by [] is = absurd cc
    by (h ∷ ls) is =
        let a = bind_some (read_header h) (λ header. each_read (read_line (minor_of header)) ls >>= if_room header) l is in
        let head = a.0 in
        let m = minor_of head in
        let b = bind_some (each_read (read_line m) ls) (if_room head) l a.2 in
        let c = cond_some (has_room (first_position head) b.0) _ _ b.2 in
        let g = header_takes h head a.1 in
        let each = each_takes (read_line m) (λ p. block_text m p.bytes p.content) (PartIs m) (λ t p q. let k = line_takes m t p q in (k.same, (k.block, k.bytes))) ls b.0 b.1 in
        let are = blocks_are m b.0 each.1 in
        let same : flat_map line (h ∷ ls) ≡ listing_of (head ++ bytes_of_parts b.0) (placed (first_position head) b.0) =
        ap (λ (z : List ℕ). flat_map line (z ∷ ls)) g.same ∙ ap (λ (z : List (List ℕ)). flat_map line (header_text head ∷ z)) each.0 ∙ sym (listing_parts head b.0 g.header) in
        subst (λ (z : Listed). IsListed z (flat_map line (h ∷ ls))) c.1 (record {
          bytes = are_bytes (head ++ bytes_of_parts b.0) (both_bytes head (bytes_of_parts b.0) (all_bytes head g.bytes_fit) are.1);
          blocks = blocks_of-parts head b.0 g.header are.0 (room_takes (first_position head) b.0 c.0);
          same = same;
        })

-- ---- the listing of a file is read

-- what splits into whole blocks and ends cleanly is made of them
record IsMade (m : ℕ) (at : Position) (bytes : List ℕ) (ws : List Whole) : Type 0 where
  whole : bytes ≡ bytes_of_parts (map part_of ws)
  places : ws ≡ placed at (map part_of ws)
  room : HaveRoom at (map part_of ws)
  parts : AllByRecursion (PartIs m) (map part_of ws)

bytes_front : (a b : List ℕ) → AreBytes (a ++ b) → AreBytes a × AreBytes b
bytes_front a b fit = let all = all_parts (λ b. b < 256) a b (all_bytes (a ++ b) fit) in (are_bytes a all.0, are_bytes b all.1)

splits_made : (m : ℕ) (at : Position) (bytes : List ℕ) (ws : List Whole) → AreBytes bytes → Splits m at bytes ws clean → IsMade m at bytes ws
splits_made m at bytes [] fit is = record { whole = (ends_are_computed m at bytes clean fit).0 is; places = refl; room = tt; parts = tt }
splits_made m at bytes (w ∷ ws) fit is =
    let (rest, parts, here, block, counted, more) = is in
    let fits = bytes_front w.bytes rest (subst (λ (z : List ℕ). AreBytes z) parts fit) in
    let next = splits_made m (next_position at w.bytes) rest ws fits.1 more in
    record {
      whole = parts ∙ ap (λ (z : List ℕ). w.bytes ++ z) next.whole;
      places = ap (λ (z : Whole). z ∷ ws) here ∙ ap (λ (z : List Whole). record { number = at.number; offset = at.offset; bytes = w.bytes; content = w.content } ∷ z) next.places;
      room = (counted, next.room);
      parts = ((block, fits.0), next.parts);
    }

-- the header at the start of a file
front_header : (bytes : List ℕ) → header_fault bytes ≡ None → IsHeader (take (header_length bytes) bytes) × (minor_of (take (header_length bytes) bytes) ≡ minor_of bytes)
    × (first_position (take (header_length bytes) bytes) ≡ first_position bytes)
front_header bytes good =
    let n = header_length bytes in
    let head = take n bytes in
    let rest = drop n bytes in
    let g = header_good bytes good in
    let parts : head ++ rest ≡ bytes = take-append-drop n bytes in
    let long : length head ≡ n = length-take-le n bytes g.2 in
    let there : 16 ≤ length head = omega (arith, long) in
    let count : option_count bytes ≡ option_count head = ap option_count (sym parts) ∙ option_count-append head rest there in
    let same_length : header_length bytes ≡ header_length head = ap (λ k. 16 + 8 * k) count in (
      record {
        there = there;
        start = sym (start_fault-append head rest there) ∙ ap start_fault parts ∙ g.1;
        long = long ∙ same_length;
        options =
            sym (options_fault-append (option_count head) 16 0 head rest (omega (arith, long, same_length)))
            ∙ ap (λ (z : List ℕ). options_fault z 16 0 (option_count head)) parts ∙ ap (options_fault bytes 16 0) (sym count) ∙ g.3;
      },
      sym (minor_of-append head rest there) ∙ ap minor_of parts,
      ap (λ (k : ℕ). record { number = 1; offset = k; in_section = false; inside = 0; outside = 0 }) (sym same_length),
    )

lines_no_feed : (m : ℕ) (ps : List Part) → AllByRecursion (PartIs m) ps → AllByRecursion (λ l. is_without 10 l ≡ true) (part_lines m ps)
lines_no_feed m [] h = tt
lines_no_feed m (p ∷ ps) h = (line_no_feed m p h.0.0 h.0.1, lines_no_feed m ps h.1)

-- lines of a header and parts are read
parts_again : (head : List ℕ) (ps : List Part) → IsHeader head → AreBytes head → AllByRecursion (PartIs (minor_of head)) ps → HaveRoom (first_position head) ps
    → read_listing (flat_map line (header_text head ∷ part_lines (minor_of head) ps)) ≡ Some (record { header = head; parts = ps })
unfolding read_listing read_lines
parts_again head ps h fit are room =
    let m = minor_of head in
    ap (λ o. o >>= read_lines) (lines_again (header_text head ∷ part_lines m ps) (header_no_feed head fit, lines_no_feed m ps are))
    ∙ ap (λ o. o >>= λ header. each_read (read_line (minor_of header)) (part_lines m ps) >>= if_room header) (header_again head h fit)
    ∙ ap (λ o. o >>= if_room head) (each_again (read_line m) (λ p. block_text m p.bytes p.content) (PartIs m) (λ p k. line_again m p k.0 k.1) ps are)
    ∙ cond-true _ _ _ (room_again (first_position head) ps room)

-- a file is what is listed in its listing
pub record IsAgain (bytes : List ℕ) (ws : List Whole) : Type 0 where
  pub file : file_of (record { header = take (header_length bytes) bytes; parts = map part_of ws }) ≡ bytes
  pub read : read_listing (listing_of bytes ws) ≡ Some (record { header = take (header_length bytes) bytes; parts = map part_of ws })

good_again : (bytes : List ℕ) (ws : List Whole) → AreBytes bytes → header_fault bytes ≡ None → blocks_of bytes ≡ record { items = ws; end = clean } → IsAgain bytes ws
good_again bytes ws fit good is =
    let n = header_length bytes in
    let m = minor_of bytes in
    let at = first_position bytes in
    let head = take n bytes in
    let rest = drop n bytes in
    let f = front_header bytes good in
    let found : blocks_from m at rest ≡ record { items = ws; end = clean } = sym (blocks_of-good bytes good) ∙ is in
    let splits : Splits m at rest ws clean = subst (λ (b : Blocks). Splits m at rest b.items b.end) found (splits_in_one_way m at rest).0 in
    let made = splits_made m at rest ws (AreBytes-drop n bytes fit) splits in
    let ps = map part_of ws in
    let file : head ++ bytes_of_parts ps ≡ bytes = ap (λ (z : List ℕ). head ++ z) (sym made.whole) ∙ take-append-drop n bytes in
    let blocks : placed (first_position head) ps ≡ ws = ap (λ (z : Position). placed z ps) f.2 ∙ sym made.places in
    record {
      file = file;
      read =
          ap read_listing (ap (λ (z : List ℕ). listing_of z ws) (sym file) ∙ ap (listing_of (head ++ bytes_of_parts ps)) (sym blocks) ∙ listing_parts head ps f.0)
          ∙ parts_again head ps f.0 (AreBytes-take n bytes fit) (subst (λ k. AllByRecursion (PartIs k) ps) (sym f.1) made.parts) (subst (λ (z : Position). HaveRoom z ps) (sym f.2) made.room);
    }

by_header : (bytes : List ℕ) (ws : List Whole) → AreBytes bytes → blocks_of bytes ≡ record { items = ws; end = clean } → (o : Option Fault) → header_fault bytes ≡ o → IsAgain bytes ws
by_header bytes ws fit is None good = good_again bytes ws fit good is
by_header bytes ws fit is (Some f) fault = absurd (let same = sym (blocks_of-bad bytes f fault) ∙ is in let ends : bad f 0 0 ≡ clean = ap (λ (b : Blocks). b.end) same in cc)

-- the listing of a file is read
pub listing_again : (bytes : List ℕ) (ws : List Whole) → AreBytes bytes → blocks_of bytes ≡ record { items = ws; end = clean } → IsAgain bytes ws
listing_again bytes ws fit is = by_header bytes ws fit is (header_fault bytes) refl

-- ---- prefixes of listings

each_front : {X : Type 0} (read : List ℕ → Option X) (ts us : List (List ℕ)) (xs : List X) → each_read read (ts ++ us) ≡ Some xs
    → (ys zs : List X) × (each_read read ts ≡ Some ys) × (xs ≡ ys ++ zs)
unfolding each_read
each_front read [] us xs is = ([], xs, refl, refl)
each_front {X} read (t ∷ ts) us xs is =
    let a = bind_some (read t) (λ x. each_read read (ts ++ us) >>= λ xs. Some (x ∷ xs)) xs is in
    let b = bind_some (each_read read (ts ++ us)) (λ xs. Some (a.0 ∷ xs)) xs a.2 in
    let g = each_front read ts us b.0 b.1 in (
      a.0 ∷ g.0,
      g.1,
      ap (λ (o : Option X). o >>= λ v. each_read read ts >>= λ vs. Some (v ∷ vs)) a.1 ∙ ap (λ (o : Option (List X)). o >>= λ vs. Some (a.0 ∷ vs)) g.2,
      sym (some_is (a.0 ∷ b.0) xs b.2) ∙ ap (λ (z : List X). a.0 ∷ z) g.3,
    )

room_front : (at : Position) (ps qs : List Part) → has_room at (ps ++ qs) ≡ true → has_room at ps ≡ true
room_front at [] qs h = refl
room_front at (p ∷ ps) qs h =
    let b = and_parts (nat_lt (side_count at p.bytes) max_side_blocks) (has_room (next_position at p.bytes) (ps ++ qs)) h in
    and_from _ _ b.0 (room_front (next_position at p.bytes) ps qs b.1)

-- the first lines of a listing are a listing
pub front_listed : (h : List ℕ) (ls more : List (List ℕ)) (l : Listed) → read_lines ((h ∷ ls) ++ more) ≡ Some l
    → (front : Listed) × (read_lines (h ∷ ls) ≡ Some front) × (front.header ≡ l.header) × ((rest : List Part) × (l.parts ≡ front.parts ++ rest))
unfolding read_lines
front_listed h ls more l is =
    let a = bind_some (read_header h) (λ header. each_read (read_line (minor_of header)) (ls ++ more) >>= if_room header) l is in
    let head = a.0 in
    let b = bind_some (each_read (read_line (minor_of head)) (ls ++ more)) (if_room head) l a.2 in
    let c = cond_some (has_room (first_position head) b.0) _ _ b.2 in
    let g = each_front (read_line (minor_of head)) ls more b.0 b.1 in
    let room : has_room (first_position head) g.0 ≡ true = room_front (first_position head) g.0 g.1 (ap (has_room (first_position head)) (sym g.3) ∙ c.0) in (
      record { header = head; parts = g.0 },
      ap (λ o. o >>= λ header. each_read (read_line (minor_of header)) ls >>= if_room header) a.1
          ∙ ap (λ o. o >>= if_room head) g.2 ∙ cond-true _ _ _ room,
      ap (λ (z : Listed). z.header) c.1,
      (g.1, ap (λ (z : Listed). z.parts) (sym c.1) ∙ g.3),
    )
