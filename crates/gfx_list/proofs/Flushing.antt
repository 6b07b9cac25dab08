-- What a listing that is read held back is written.
use Rattle.std.proofs.Common.{◌≡◌, ℕ, List, [], ◌++◌, Option, Some, Result, Ok, Err, inr, sym, ap, subst, ◌∙◌, append_assoc}
use Rattle.std.specs.Prelude.{flat_map, is_some}
use Rattle.std.specs.Io.KnownBytes.{Appends}
use Rattle.std.proofs.lemmas.List.{append-nil}
use Rattle.gfx_io.specs.Pieces.{AppendsPart}
use Rattle.gfx_model.specs.Text.{line}
use Rattle.gfx_grammar.proofs.NumberLaws.{bind_some}
use Rattle.gfx_text_grammar.specs.Splits.{whole_lines}
use Rattle.gfx_text_grammar.specs.Listings.{Listed, file_of, listed_of, read_lines, read_listing}
use Rattle.gfx_text_grammar.proofs.SplitLaws.{lines_takes}
use Rattle.gfx_text_grammar.proofs.TextLaws.{listed_is_read}
use Rattle.gfx_listing_law.specs.Fronts.{BeginsWith, bytes_in}
use Rattle.gfx_rewrite.specs.Held.{Held, HeldPart}
use Rattle.gfx_list.specs.Unlists.{IsFront, UnlistsBy}
use Rattle.gfx_list.specs.declared.fault.UnlistFault.{UnlistFault}
use Rattle.gfx_list.specs.declared.fault.UnlistFault.TheVariants.{BadListing, ReadFault, SinkFault, WantMemory}
use Rattle.gfx_rewrite.proofs.Holding.{held_all, held_front, part_all, part_front}
use Rattle.gfx_list.proofs.ReadLines.{lines_bytes}

-- ---- what was held is written

-- all of it
pub unlists_all : (end : Result Unit UnlistFault) (before mid after : Option (List ℕ)) (held text left : List ℕ) → Appends mid after held
    → UnlistsBy (Held before mid held) (HeldPart before mid held) end text left → UnlistsBy (Appends before after) (AppendsPart before after) end text left
unlists_all (Ok done) before mid after held text left more a =
    record { bytes = a.bytes; are_bytes = a.are_bytes; listing = a.listing; file = held_all before mid after held a.bytes a.file more; read = a.read }
unlists_all (Err (BadListing number)) before mid after held text left more a = record { bad = a.bad; file = held_all before mid after held (bytes_in a.bad.lines) a.file more; read = a.read }
unlists_all (Err ReadFault) before mid after held text left more a = record {
  given = a.given;
  parts = a.parts;
  lines = a.lines;
  rest = a.rest;
  begins = a.begins;
  cut = a.cut;
  short = a.short;
  file = held_all before mid after held (bytes_in a.lines) a.file more;
}
unlists_all (Err SinkFault) before mid after held text left more a =
    record { lines = a.lines; rest = a.rest; begins = a.begins; part = part_all before mid after held (bytes_in a.lines) a.part more }
unlists_all (Err WantMemory) before mid after held text left more a =
    record { lines = a.lines; rest = a.rest; begins = a.begins; part = part_all before mid after held (bytes_in a.lines) a.part more }

-- the lines of a listing
lines_of : (bytes text : List ℕ) (l : Listed) → read_listing text ≡ Some l → file_of l ≡ bytes → (lines : List (List ℕ)) × (bytes_in lines ≡ bytes) × BeginsWith lines [] text
unfolding read_listing
lines_of bytes text l read is =
    let a = bind_some (whole_lines text) read_lines l read in
    (a.0, lines_bytes a.0 l a.2 ∙ is, record { parts = lines_takes text a.0 a.1 ∙ sym (append-nil (flat_map line a.0)); are_read = inr (ap is_some a.2) })

-- or a prefix of it
pub unlists_front : (end : Result Unit UnlistFault) (before mid after : Option (List ℕ)) (held text left : List ℕ) → AppendsPart mid after held
    → UnlistsBy (Held before mid held) (HeldPart before mid held) end text left → IsFront (AppendsPart before after) text
unlists_front (Ok done) before mid after held text left part a =
    let is = listed_is_read a.bytes text a.are_bytes a.listing in
    let (lines, same, begins) = lines_of a.bytes text (listed_of a.bytes) is.0 is.1 in
    record { lines = lines; rest = []; begins = begins; part = subst (AppendsPart before after) (sym same) (held_front before mid after held a.bytes a.file part) }
unlists_front (Err (BadListing number)) before mid after held text left part a =
    record { lines = a.bad.lines; rest = a.bad.rest; begins = a.bad.begins; part = held_front before mid after held (bytes_in a.bad.lines) a.file part }
unlists_front (Err ReadFault) before mid after held text left part a = record {
  lines = a.lines;
  rest = a.rest ++ left;
  begins = record {
    parts = a.parts ∙ ap (λ (xs : List ℕ). xs ++ left) a.begins.parts ∙ append_assoc (flat_map line a.lines) a.rest left;
    are_read = a.begins.are_read;
  };
  part = held_front before mid after held (bytes_in a.lines) a.file part;
}
unlists_front (Err SinkFault) before mid after held text left part a =
    record { lines = a.lines; rest = a.rest; begins = a.begins; part = part_front before mid after held (bytes_in a.lines) a.part part }
unlists_front (Err WantMemory) before mid after held text left part a =
    record { lines = a.lines; rest = a.rest; begins = a.begins; part = part_front before mid after held (bytes_in a.lines) a.part part }
