-- The first line of a listing, and what the call answers where it has no header.
use Rattle.std.proofs.Common.{◌≡◌, ◌⊎◌, ℕ, ◌<◌, ◌+◌, arith, List, [], ◌∷◌, ◌++◌, length, take, drop, Option, Some, None, Ok, Err, inl, inr, refl, sym, ap, ◌∙◌, append_assoc}
use Rattle.std.specs.Io.KnownBytes.{IsAtEnd}
use Rattle.std.proofs.lemmas.List.{append-nil}
use Rattle.gfx_io.specs.Told.{IfTold}
use Rattle.gfx_model.specs.Blocks.{Position}
use Rattle.gfx_model.specs.Text.{line}
use Rattle.gfx_decode.proofs.Told.{told_if}
use Rattle.gfx_text_grammar.specs.Splits.{is_without}
use Rattle.gfx_text_grammar.proofs.HeaderLaws.{header_takes}
use Rattle.gfx_listing_law.specs.Fronts.{BeginsWith, IsCutLine, IsLongLine}
use Rattle.gfx_rewrite.specs.Held.{Held, HeldPart}
use Rattle.gfx_list.specs.Lines.{EndsInLine, Finds}
use Rattle.gfx_list.specs.Parts.{IsNoHeader, IsNothing, IsOpened, TakesHeader, first_place}
use Rattle.gfx_list.specs.Unlists.{IsBadListing, IsFront, UnlistsBy, read_ahead}
use Rattle.gfx_list.specs.declared.fault.UnlistFault.{UnlistFault}
use Rattle.gfx_list.specs.declared.fault.UnlistFault.TheVariants.{BadListing, ReadFault, SinkFault, WantMemory}
use Rattle.gfx_rewrite.proofs.Holding.{held_first, part_held}
use Rattle.gfx_list.proofs.Placing.{first_is}
use Rattle.gfx_list.proofs.ReadLines.{first_line, no_first_line, no_lines}
use Rattle.gfx_list.proofs.TakenLines.{Unlisting, consumed, ends_here, told_now}

-- ---- the first line

-- the text begins with no line
none_yet : (text : List ℕ) → BeginsWith [] text text
none_yet text = record { parts = refl; are_read = inl refl }

bad_first : (number : ℕ) (text new left : List ℕ) → number ≡ 1 → text ≡ new ++ left → IsCutLine [] (new ++ left) ⊎ IsLongLine (new ++ left) → length new < read_ahead
    → IsBadListing IsNothing number text left
bad_first number text new left is parts stops few = record {
  bad = record { lines = []; rest = new ++ left; begins = record { parts = parts; are_read = inl refl }; number_is = is; stops = inr stops };
  file = no_lines;
  read = record { ahead = new; parts = parts; short = few };
}

-- what was read of a text from its start
first_parts : (new piece text left : List ℕ) → new ≡ [] ++ piece → text ≡ piece ++ left → text ≡ new ++ left
first_parts new piece text left is came = came ∙ ap (λ (xs : List ℕ). xs ++ left) (sym is)

first_memory : (text : List ℕ) → IsFront IsNothing text
first_memory text = record { lines = []; rest = text; begins = none_yet text; part = no_lines }

-- why there is no first line
pub no_first : (why : UnlistFault) (new : List ℕ) (old now : Option (List ℕ)) → Finds 1 [] old new now (Err why) → IfTold old now (UnlistsBy IsNothing IsNothing (Err why))
no_first (BadListing number) new old now ((piece, came, grown), is, ends, few) =
    told_now old now (EndsInLine new) _ _ ends (consumed old now piece came)
    (λ text left end parts. bad_first number text new left is (first_parts new piece text left grown parts) (ends_here [] new left end) few)
no_first ReadFault new old now ((piece, came, grown), without, short) =
    told_if old now _ _ (consumed old now piece came) (λ text left parts. record {
      given = new;
      parts = first_parts new piece text left grown parts;
      lines = [];
      rest = new;
      begins = none_yet new;
      cut = without;
      short = short;
      file = no_lines;
    })
no_first SinkFault new old now none = absurd none
no_first WantMemory new old now (piece, came) = told_if old now _ _ (consumed old now piece came) (λ text left parts. first_memory text)

-- the text is empty
pub empty_text : (new : List ℕ) (old now : Option (List ℕ)) → Finds 1 [] old new now (Ok None) → IfTold old now (UnlistsBy IsNothing IsNothing (Err (BadListing 1)))
empty_text new old now ((piece, came, grown), none, ended) =
    told_now old now IsAtEnd _ _ ended (consumed old now piece came) (λ text left end parts.
    let all : new ++ left ≡ [] = ap (λ (xs : List ℕ). xs ++ left) none ∙ end in
    bad_first 1 text new left refl (first_parts new piece text left grown parts) (inl (ap (is_without 10) all, inl refl)) (let long = ap length none in omega (arith, long)))

-- the first line is no header's
pub no_header : (why : UnlistFault) (end : ℕ) (new : List ℕ) (old now : Option (List ℕ)) → Finds 1 [] old new now (Ok (Some end)) → IsNoHeader (take end new) why
    → IfTold old now (UnlistsBy IsNothing IsNothing (Err why))
no_header (BadListing number) end new old now ((piece, came, grown), h, short, few) (is, none) =
    told_if old now _ _ (consumed old now piece came) (λ text left parts.
    let next = take end new in
    let rest = drop (end + 1) new in
    record {
      bad = record {
        lines = [];
        rest = text;
        begins = none_yet text;
        number_is = is;
        stops = inl (
          next,
          rest ++ left,
          first_parts new piece text left grown parts ∙ ap (λ (xs : List ℕ). xs ++ left) h.whole ∙ append_assoc (line next) rest left,
          h.without,
          no_first_line next none,
        );
      };
      file = no_lines;
      read = record { ahead = new; parts = first_parts new piece text left grown parts; short = few };
    })
no_header ReadFault end new old now finds none = absurd none
no_header SinkFault end new old now finds none = absurd none
no_header WantMemory end new old now ((piece, came, grown), h, short, few) none = told_if old now _ _ (consumed old now piece came) (λ text left parts. first_memory text)

-- the first line is a header's
pub opens : (end minor : ℕ) (new held : List ℕ) (old now : Option (List ℕ)) → Finds 1 [] old new now (Ok (Some end)) → TakesHeader (take end new) held minor
    → IfTold old now (IsOpened minor held (drop (end + 1) new))
opens end minor new held old now ((piece, came, grown), h, short, few) takes =
    told_if old now _ _ (consumed old now piece came) (λ text left parts. record {
      first = take end new;
      takes = takes;
      without = h.without;
      parts = first_parts new piece text left grown parts ∙ ap (λ (xs : List ℕ). xs ++ left) h.whole ∙ append_assoc (line (take end new)) (drop (end + 1) new) left;
    })

-- where nothing is held nothing was taken
pub unopened : (why : UnlistFault) (taken : Option (List ℕ)) (held text left : List ℕ) → held ≡ [] → UnlistsBy IsNothing IsNothing (Err why) text left
    → UnlistsBy (Held taken taken held) (HeldPart taken taken held) (Err why) text left
unopened (BadListing number) taken held text left none a = record { bad = a.bad; file = held_first taken held _ (none ∙ sym a.file); read = a.read }
unopened ReadFault taken held text left none a = record {
  given = a.given;
  parts = a.parts;
  lines = a.lines;
  rest = a.rest;
  begins = a.begins;
  cut = a.cut;
  short = a.short;
  file = held_first taken held _ (none ∙ sym a.file);
}
unopened SinkFault taken held text left none a =
    record { lines = a.lines; rest = a.rest; begins = a.begins; part = part_held taken taken held _ (held_first taken held _ (none ∙ sym a.part)) }
unopened WantMemory taken held text left none a =
    record { lines = a.lines; rest = a.rest; begins = a.begins; part = part_held taken taken held _ (held_first taken held _ (none ∙ sym a.part)) }

pub header_not_read : (text : List ℕ) (why : UnlistFault) → IsNoHeader text why → why ≡ ReadFault → ⊥
header_not_read text (BadListing found) h is = cc
header_not_read text ReadFault h is = h
header_not_read text SinkFault h is = h
header_not_read text WantMemory h is = cc

pub header_not_sunk : (text : List ℕ) (why : UnlistFault) → IsNoHeader text why → why ≡ SinkFault → ⊥
header_not_sunk text (BadListing found) h is = cc
header_not_sunk text ReadFault h is = h
header_not_sunk text SinkFault h is = h
header_not_sunk text WantMemory h is = cc

-- the header's line was read
pub opened : (m : ℕ) (at : Position) (taken : Option (List ℕ)) (held pending text left : List ℕ) → IsOpened m held pending text left → at ≡ first_place (length held)
    → Unlisting m at taken taken held pending text left
opened m at taken held pending text left o is = record {
  lines = o.first ∷ [];
  listed = record { header = held; parts = [] };
  read = first_line o.first held o.takes.read;
  feeds = (o.without, tt);
  minor = sym o.takes.minor_is;
  place = is ∙ first_is held (header_takes o.first held o.takes.read).header;
  number = ap (λ (p : Position). p.number) is;
  parts = o.parts ∙ ap (λ (xs : List ℕ). xs ++ (pending ++ left)) (sym (append-nil (line o.first)));
  file = held_first taken held (held ++ []) (sym (append-nil held));
}
