-- A listing that is read, line by line, and what the call answers where it stops.
use Rattle.std.proofs.Common.{◌≡◌, ◌⊎◌, ℕ, ◌+◌, ◌-◌, ◌^◌, ◌<◌, true, List, [], ◌∷◌, ◌++◌, length, take, drop, Option, Some, None, Ok, Err, inl, inr, refl, sym, ap, subst, ◌∙◌, arith, append_assoc, length-append}
use Rattle.std.specs.Prelude.{flat_map, is_some}
use Rattle.std.specs.List.{AllByRecursion}
use Rattle.std.specs.Io.KnownBytes.{Consumes, IsAtEnd}
use Rattle.std.proofs.lemmas.List.{append-nil}
use Rattle.gfx_io.specs.Pieces.{AppendsPart}
use Rattle.gfx_io.specs.Told.{IfTold}
use Rattle.gfx_model.specs.Blocks.{Position, minor_of, next_position, side_count, first_position}
use Rattle.gfx_model.specs.Limits.{max_side_blocks}
use Rattle.gfx_model.specs.Text.{line}
use Rattle.gfx_grammar.specs.Framing.{Part}
use Rattle.gfx_decode.proofs.Told.{told_if, told_through}
use Rattle.gfx_decode.specs.Reachable.{IsInReach}
use Rattle.gfx_text_grammar.specs.Splits.{is_without}
use Rattle.gfx_text_grammar.specs.Lines.{read_line}
use Rattle.gfx_text_grammar.specs.Listings.{Listed, file_of, read_lines, read_listing}
use Rattle.gfx_text_grammar.proofs.TextLaws.{read_is_listed}
use Rattle.gfx_listing_law.specs.Fronts.{BeginsWith, IsCutLine, IsLongLine, bytes_in, max_line_bytes}
use Rattle.gfx_rewrite.specs.Held.{Held, HeldPart}
use Rattle.gfx_list.specs.Lines.{EndsInLine, Finds, HasLineTo, Reads}
use Rattle.gfx_list.specs.Parts.{IsNoBlock, TakesBlock}
use Rattle.gfx_list.specs.Unlists.{IsBadListing, IsFront, IsUnread, UnlistsBy, read_ahead}
use Rattle.gfx_list.specs.declared.fault.UnlistFault.{UnlistFault}
use Rattle.gfx_list.specs.declared.fault.UnlistFault.TheVariants.{BadListing, ReadFault, SinkFault, WantMemory}
use Rattle.gfx_rewrite.proofs.Holding.{held_as, held_failed, held_more, held_some, part_held}
use Rattle.gfx_list.proofs.ReadLines.{all_more, file_more, lines_bytes, lines_more, lines_stop, place_in, place_more, text_more, text_read}

-- ---- what is told of a source

-- the bytes that were read of it
pub consumed : (a b : Option (List ℕ)) (piece : List ℕ) → Consumes a b piece → IfTold a b (λ x y. x ≡ piece ++ y)
consumed None b piece came = tt
consumed (Some x) None piece came = absurd came
consumed (Some x) (Some y) piece came = came

-- what held of what was left holds behind a piece
pub told_piece : (first old new : Option (List ℕ)) (piece : List ℕ) (P R : List ℕ → List ℕ → Type 0) → IfTold first old P → Consumes old new piece
    → ((x y z : List ℕ) → P x y → y ≡ piece ++ z → R x z) → IfTold first new R
told_piece first old new piece P R told came f = told_through first old new P (λ x y. x ≡ piece ++ y) R told (consumed old new piece came) f

-- ---- the lines so far

-- these lines were read, and what they list was taken or is held
pub record Unlisting (m : ℕ) (at : Position) (before after : Option (List ℕ)) (held pending text left : List ℕ) : Type 0 where
  pub lines : List (List ℕ)
  pub listed : Listed
  pub read : read_lines lines ≡ Some listed
  pub feeds : AllByRecursion (λ t. is_without 10 t ≡ true) lines
  pub minor : minor_of listed.header ≡ m
  pub place : at ≡ place_in listed
  pub number : at.number ≡ length lines
  pub parts : text ≡ flat_map line lines ++ (pending ++ left)
  pub file : Held before after held (file_of listed)

-- more was read
reads_on : (m : ℕ) (at : Position) (before after : Option (List ℕ)) (held pending new piece text left rest : List ℕ) → Unlisting m at before after held pending text left
    → new ≡ pending ++ piece → left ≡ piece ++ rest → Unlisting m at before after held new text rest
reads_on m at before after held pending new piece text left rest u grown came = record {
  lines = u.lines;
  listed = u.listed;
  read = u.read;
  feeds = u.feeds;
  minor = u.minor;
  place = u.place;
  number = u.number;
  parts = u.parts
      ∙ ap (λ (xs : List ℕ). flat_map line u.lines ++ (pending ++ xs)) came
      ∙ ap (λ (xs : List ℕ). flat_map line u.lines ++ xs) (sym (append_assoc pending piece rest))
      ∙ ap (λ (xs : List ℕ). flat_map line u.lines ++ (xs ++ rest)) (sym grown);
  file = u.file;
}

pub told_reads : (m : ℕ) (at : Position) (before after : Option (List ℕ)) (held pending new : List ℕ) (first old now : Option (List ℕ))
    → IfTold first old (Unlisting m at before after held pending) → Reads pending old new now → IfTold first now (Unlisting m at before after held new)
told_reads m at before after held pending new first old now told (piece, came, grown) =
    told_piece first old now piece _ _ told came (λ text left rest u is. reads_on m at before after held pending new piece text left rest u grown is)

-- the block of one line more
pub line_taken : (m : ℕ) (at next : Position) (before after : Option (List ℕ)) (end : ℕ) (held grown pending text left : List ℕ) → Unlisting m at before after held pending text left
    → HasLineTo end pending → TakesBlock m at (take end pending) held grown next → Unlisting m next before after grown (drop (end + 1) pending) text left
line_taken m at next before after end held grown pending text left u h t =
    let new = take end pending in
    let rest = drop (end + 1) pending in
    let lines = flat_map line u.lines in
    let number = ap (λ (p : Position). p.number) t.behind in
    let count = u.number in
    record {
      lines = u.lines ++ new ∷ [];
      listed = record { header = u.listed.header; parts = u.listed.parts ++ t.part ∷ [] };
      read = lines_more u.lines u.listed new t.part u.read (subst (λ n. read_line n new ≡ Some t.part) (sym u.minor) t.read)
          (subst (λ (p : Position). side_count p t.part.bytes < max_side_blocks) u.place t.counted);
      feeds = all_more (λ x. is_without 10 x ≡ true) u.lines new u.feeds h.without;
      minor = u.minor;
      place = t.behind ∙ ap (λ (p : Position). next_position p t.part.bytes) u.place ∙ sym (place_more (first_position u.listed.header) u.listed.parts t.part);
      number = omega (arith, number, count, length-append u.lines (new ∷ []));
      parts = u.parts
          ∙ ap (λ (xs : List ℕ). lines ++ (xs ++ left)) h.whole
          ∙ ap (λ (xs : List ℕ). lines ++ xs) (append_assoc (line new) rest left)
          ∙ sym (append_assoc lines (line new) (rest ++ left))
          ∙ ap (λ (xs : List ℕ). xs ++ (rest ++ left)) (sym (text_more u.lines new));
      file = held_as before after grown _ _ (held_more before after held t.part.bytes grown (file_of u.listed) u.file t.grown) (sym (file_more u.listed t.part));
    }

-- some of what was held was written
pub some_written : (m : ℕ) (at : Position) (before mid after : Option (List ℕ)) (held new pending text left : List ℕ) → Unlisting m at before mid held pending text left
    → Held mid after new held → Unlisting m at before after new pending text left
some_written m at before mid after held new pending text left u some = record {
  lines = u.lines;
  listed = u.listed;
  read = u.read;
  feeds = u.feeds;
  minor = u.minor;
  place = u.place;
  number = u.number;
  parts = u.parts;
  file = held_some before mid after held new (file_of u.listed) u.file some;
}

-- ---- how it ends

begins : (m : ℕ) (at : Position) (before after : Option (List ℕ)) (held pending text left : List ℕ) (u : Unlisting m at before after held pending text left)
    → BeginsWith u.lines (pending ++ left) text
begins m at before after held pending text left u = record { parts = u.parts; are_read = inr (ap is_some u.read) }

-- what the lines list was taken or is held
bytes_held : (m : ℕ) (at : Position) (before after : Option (List ℕ)) (held pending text left : List ℕ) (u : Unlisting m at before after held pending text left)
    → Held before after held (bytes_in u.lines)
bytes_held m at before after held pending text left u = held_as before after held _ _ u.file (sym (lines_bytes u.lines u.listed u.read))

-- nothing is left
pub done : (m : ℕ) (at : Position) (before after : Option (List ℕ)) (held pending text left : List ℕ) → Unlisting m at before after held pending text left → pending ≡ [] → left ≡ []
    → UnlistsBy (Held before after held) (HeldPart before after held) (Ok tt) text left
done m at before after held pending text left u none ended =
    let lines = flat_map line u.lines in
    let whole : text ≡ lines =
    u.parts ∙ ap (λ (xs : List ℕ). lines ++ (xs ++ left)) none ∙ ap (λ (xs : List ℕ). lines ++ xs) ended ∙ append-nil lines in
    let is = read_is_listed text u.listed (ap read_listing whole ∙ text_read u.lines u.listed u.feeds u.read) in
    record { bytes = file_of u.listed; are_bytes = is.0; listing = is.1; file = u.file; read = ended }

-- what ends without a line feed, or goes on for too long
pub ends_here : (lines : List (List ℕ)) (new left : List ℕ) → EndsInLine new (Some left) → IsCutLine lines (new ++ left) ⊎ IsLongLine (new ++ left)
ends_here lines new left (inl (without, some, ended)) =
    let all : new ++ left ≡ new = ap (λ (xs : List ℕ). new ++ xs) ended ∙ append-nil new in
    inl (ap (is_without 10) all ∙ without, inr (λ is. some (sym all ∙ is)))
ends_here lines new left (inr (next, more, is, without, long)) =
    inr (next, more ++ left, ap (λ (xs : List ℕ). xs ++ left) is ∙ append_assoc next more left, without, long)

-- a line that is no block with room
refused : (m : ℕ) (at : Position) (before after : Option (List ℕ)) (end number : ℕ) (held pending text left : List ℕ) → Unlisting m at before after held pending text left
    → HasLineTo end pending → length pending < read_ahead → IsNoBlock m at (take end pending) (BadListing number) → IsBadListing (Held before after held) number text left
refused m at before after end number held pending text left u h few (is, none) =
    let next = take end pending in
    let rest = drop (end + 1) pending in
    let count = u.number in
    let none_there = subst (λ n. (p : Part) → read_line n next ≡ Some p → side_count (place_in u.listed) p.bytes < max_side_blocks → ⊥) (sym u.minor)
    (subst (λ (q : Position). (p : Part) → read_line m next ≡ Some p → side_count q p.bytes < max_side_blocks → ⊥) u.place none) in
    record {
      bad = record {
        lines = u.lines;
        rest = pending ++ left;
        begins = begins m at before after held pending text left u;
        number_is = omega (arith, is, count);
        stops = inl (
          next,
          rest ++ left,
          ap (λ (xs : List ℕ). xs ++ left) h.whole ∙ append_assoc (line next) rest left,
          h.without,
          lines_stop u.lines u.listed next u.read none_there,
        );
      };
      file = bytes_held m at before after held pending text left u;
      read = record { ahead = pending; parts = u.parts; short = few };
    }

-- there is no memory, which leaves what was held
memory : (m : ℕ) (at : Position) (before after : Option (List ℕ)) (held new pending text left : List ℕ) → Unlisting m at before after held pending text left → new ≡ held
    → IsFront (HeldPart before after new) text
memory m at before after held new pending text left u same = record {
  lines = u.lines;
  rest = pending ++ left;
  begins = begins m at before after held pending text left u;
  part = subst (λ xs. HeldPart before after xs (bytes_in u.lines)) (sym same) (part_held before after held (bytes_in u.lines) (bytes_held m at before after held pending text left u));
}

-- why a line gave no block
pub no_block : (m : ℕ) (at : Position) (why : UnlistFault) (before after : Option (List ℕ)) (end : ℕ) (held new pending text left : List ℕ) → Unlisting m at before after held pending text left
    → HasLineTo end pending → length pending < read_ahead → IsNoBlock m at (take end pending) why → new ≡ held
    → UnlistsBy (Held before after new) (HeldPart before after new) (Err why) text left
no_block m at (BadListing number) before after end held new pending text left u h few none same =
    subst (λ xs. IsBadListing (Held before after xs) number text left) (sym same) (refused m at before after end number held pending text left u h few none)
no_block m at ReadFault before after end held new pending text left u h few none same = absurd none
no_block m at SinkFault before after end held new pending text left u h few none same = absurd none
no_block m at WantMemory before after end held new pending text left u h few none same = memory m at before after held new pending text left u same

-- a read failed behind whole lines
unread : (m : ℕ) (at : Position) (before after : Option (List ℕ)) (held pending text left : List ℕ) → Unlisting m at before after held pending text left → is_without 10 pending ≡ true
    → length pending < max_line_bytes → IsUnread (Held before after held) text left
unread m at before after held pending text left u without short = record {
  given = flat_map line u.lines ++ pending;
  parts = u.parts ∙ sym (append_assoc (flat_map line u.lines) pending left);
  lines = u.lines;
  rest = pending;
  begins = record { parts = refl; are_read = inr (ap is_some u.read) };
  cut = without;
  short = short;
  file = bytes_held m at before after held pending text left u;
}

-- the input ends in a line, or this has too many bytes
bad_end : (m number found : ℕ) (at : Position) (before after : Option (List ℕ)) (held new text rest : List ℕ) → number ≡ at.number + 1 → found ≡ number → EndsInLine new (Some rest)
    → length new < read_ahead → Unlisting m at before after held new text rest → IsBadListing (Held before after held) found text rest
bad_end m number found at before after held new text rest is same ends few u =
    let count = u.number in
    record {
      bad = record {
        lines = u.lines;
        rest = new ++ rest;
        begins = begins m at before after held new text rest u;
        number_is = omega (arith, same, is, count);
        stops = inr (ends_here u.lines new rest ends);
      };
      file = bytes_held m at before after held new text rest u;
      read = record { ahead = new; parts = u.parts; short = few };
    }

-- with what is known of the bytes that are left
pub told_now : (a b : Option (List ℕ)) (Q : Option (List ℕ) → Type 0) (P R : List ℕ → List ℕ → Type 0) → Q b → IfTold a b P → ((x y : List ℕ) → Q (Some y) → P x y → R x y) → IfTold a b R
told_now None b Q P R q p f = tt
told_now (Some x) None Q P R q p f = absurd p
told_now (Some x) (Some y) Q P R q p f = f x y q p

-- why there is no further line
pub no_line : (m number : ℕ) (at : Position) (why : UnlistFault) (before after : Option (List ℕ)) (held pending new : List ℕ) (first old now : Option (List ℕ)) → number ≡ at.number + 1
    → IfTold first old (Unlisting m at before after held pending) → Finds number pending old new now (Err why)
    → IfTold first now (UnlistsBy (Held before after held) (HeldPart before after held) (Err why))
no_line m number at (BadListing found) before after held pending new first old now is told (reads, same, ends, few) =
    told_now first now (EndsInLine new) _ _ ends (told_reads m at before after held pending new first old now told reads)
    (λ text rest end u. bad_end m number found at before after held new text rest is same end few u)
no_line m number at ReadFault before after held pending new first old now is told (reads, without, short) =
    told_if first now _ _ (told_reads m at before after held pending new first old now told reads) (λ text left u. unread m at before after held new text left u without short)
no_line m number at SinkFault before after held pending new first old now is told none = absurd none
no_line m number at WantMemory before after held pending new first old now is told (piece, came) =
    told_piece first old now piece _ _ told came (λ text left rest u more. memory m at before after held held pending text left u refl)

-- nothing was left
pub no_more : (m number : ℕ) (at : Position) (before after : Option (List ℕ)) (held pending new : List ℕ) (first old now : Option (List ℕ))
    → IfTold first old (Unlisting m at before after held pending) → Finds number pending old new now (Ok None)
    → IfTold first now (UnlistsBy (Held before after held) (HeldPart before after held) (Ok tt))
no_more m number at before after held pending new first old now told (reads, none, ended) =
    told_now first now IsAtEnd _ _ ended (told_reads m at before after held pending new first old now told reads)
    (λ text left end u. done m at before after held new text left u none end)

-- a write failed behind a line
pub write_fails : (m : ℕ) (at next : Position) (before mid after : Option (List ℕ)) (end : ℕ) (held grown new pending text left : List ℕ) → Unlisting m at before mid held pending text left
    → HasLineTo end pending → TakesBlock m at (take end pending) held grown next → AppendsPart mid after grown → new ≡ []
    → UnlistsBy (Held before after new) (HeldPart before after new) (Err SinkFault) text left
write_fails m at next before mid after end held grown new pending text left u h t part none =
    let v = line_taken m at next before mid end held grown pending text left u h t in
    record {
      lines = v.lines;
      rest = drop (end + 1) pending ++ left;
      begins = begins m next before mid grown (drop (end + 1) pending) text left v;
      part = held_failed before mid after grown new (bytes_in v.lines) (bytes_held m next before mid grown (drop (end + 1) pending) text left v) part none;
    }

-- ---- how many lines may come

-- each block leaves fewer to come
pub fewer_lines : (m : ℕ) (at next : Position) (line old new : List ℕ) → IsInReach at → TakesBlock m at line old new next → 2 ^ 33 + 2 - next.number < 2 ^ 33 + 2 - at.number
fewer_lines m at next line old new reach t =
    let counted = reach.counted in
    let inside = reach.inside in
    let outside = reach.outside in
    let number = ap (λ (p : Position). p.number) t.behind in
    omega (arith, counted, inside, outside, number)

-- ---- faults that do not come

pub line_not_sunk : (number : ℕ) (old new : List ℕ) (a b : Option (List ℕ)) (why : UnlistFault) → Finds number old a new b (Err why) → why ≡ SinkFault → ⊥
line_not_sunk number old new a b (BadListing found) h is = cc
line_not_sunk number old new a b ReadFault h is = cc
line_not_sunk number old new a b SinkFault h is = h
line_not_sunk number old new a b WantMemory h is = cc

pub block_not_read : (m : ℕ) (at : Position) (text : List ℕ) (why : UnlistFault) → IsNoBlock m at text why → why ≡ ReadFault → ⊥
block_not_read m at text (BadListing found) h is = cc
block_not_read m at text ReadFault h is = h
block_not_read m at text SinkFault h is = h
block_not_read m at text WantMemory h is = cc

pub block_not_sunk : (m : ℕ) (at : Position) (text : List ℕ) (why : UnlistFault) → IsNoBlock m at text why → why ≡ SinkFault → ⊥
block_not_sunk m at text (BadListing found) h is = cc
block_not_sunk m at text ReadFault h is = h
block_not_sunk m at text SinkFault h is = h
block_not_sunk m at text WantMemory h is = cc
