-- What the bytes of a header say of the file that they were read from.
use Rattle.std.proofs.Common.{◌≡◌, ℕ, ◌+◌, ◌*◌, ◌<◌, ◌≤◌, ◌⊎◌, List, ◌++◌, length, nat_lt, false, Some, None, Ok, Err, Option, inl, inr, refl, sym, ap, subst, ◌∙◌, arith, append-nil, length-append}
use Rattle.std.specs.Io.KnownBytes.{Consumes, IsAtEnd}
use Rattle.std.proofs.KnownBytes.{Consumes-trans}
use Rattle.std.specs.Prelude.{IfSome}
use Rattle.std.proofs.lemmas.Bool.{le-ltb}
use Rattle.gfx_types.specs.declared.names.Fault.{Fault}
use Rattle.gfx_types.specs.declared.names.Fault.TheVariants.{Truncated}
use Rattle.gfx_model.specs.Blocks.{Position, header_fault, minor_of, option_count, options_fault, refuse, first_position, bad}
use Rattle.gfx_grammar.specs.Framing as framing
use Rattle.gfx_grammar.specs.Splitting.{blocks_from, blocks_of, only_end}
use Rattle.gfx_grammar.proofs.FramingLaws.{refuse-false}
use Rattle.gfx_grammar.proofs.HeaderLaws.{header_fault-short, header_fault-start, header_fault-options, header-of_parts, header_length-append, minor_of-append, option_count-append, blocks_of-header, blocks_of-bad, options_fault-append, start_fault-append, start_minor, start_options}
use Rattle.gfx_blocks.specs.declared.header.Header.{Header}
use Rattle.gfx_io.specs.Told.{IfTold}
use Rattle.gfx_decode.specs.declared.fault.DecodeFault.{DecodeFault}
use Rattle.gfx_decode.specs.declared.fault.DecodeFault.TheVariants.{Bad, ReadFault, WantMemory}
use Rattle.gfx_decode.specs.Reading.{IsHeader, ReadsSome, StopsInHeader, StopsInOptions}
use Rattle.gfx_decode.specs.Decoding.{GivesHeader, start_of}
use Rattle.gfx_decode.specs.Reachable.{IsInReach}

-- the input ends in the start
pub start_cut : (old new : Option (List ℕ)) (got : List ℕ) → Consumes old new got → IsAtEnd new → length got < 16
    → IfSome old (λ bytes. header_fault bytes ≡ Some Truncated)
start_cut None new got reads ends short = tt
start_cut (Some bytes) None got reads ends short = absurd reads
start_cut (Some bytes) (Some rest) got reads ends short =
    let same : bytes ≡ got = reads ∙ ap (λ (xs : List ℕ). got ++ xs) ends ∙ append-nil got in
    subst (λ (xs : List ℕ). header_fault xs ≡ Some Truncated) (sym same) (header_fault-short got short)

-- a start that breaks a step is a header that breaks it
pub start_stops : (old new : Option (List ℕ)) (start : List ℕ) (fault : Fault) → Consumes old new start → length start ≡ 16 → framing.start_fault start ≡ Some fault
    → IfSome old (λ bytes. header_fault bytes ≡ Some fault)
start_stops None new start fault reads long is = tt
start_stops (Some bytes) None start fault reads long is = absurd reads
start_stops (Some bytes) (Some rest) start fault reads long is = ap header_fault reads ∙ header_fault-start start rest fault long is

-- whole options that break a step
pub options_break : (count : ℕ) (old new : Option (List ℕ)) (options : List ℕ) (fault : Fault) → Consumes old new options → length options ≡ 8 * count
    → options_fault options 0 0 count ≡ Some fault
    → IfSome old (λ rest. refuse (nat_lt (length rest) (8 * count)) Truncated (options_fault rest 0 0 count) ≡ Some fault)
options_break count None new options fault reads long is = tt
options_break count (Some bytes) None options fault reads long is = absurd reads
options_break count (Some bytes) (Some rest) options fault reads long is =
    refuse-false (nat_lt (length bytes) (8 * count)) Truncated _ (le-ltb (length bytes) (8 * count) (omega (arith, ap length reads, length-append options rest, long)))
    ∙ ap (λ (xs : List ℕ). options_fault xs 0 0 count) reads ∙ options_fault-append count 0 0 options rest (omega (arith, long)) ∙ is

-- options that were read behind the start of a header in order
pub record StartsHeader (header : Header) (start : List ℕ) : Type 0 where
  pub long : length start ≡ 16
  pub good : framing.start_fault start ≡ None
  pub minor : header.minor ≡ minor_of start
  pub options : header.options ≡ option_count start

pub header_whole : (header : Header) (start options : List ℕ) → StartsHeader header start → length options ≡ 8 * header.options → options_fault options 0 0 header.options ≡ None
    → IsHeader header (start ++ options)
header_whole header start options h long none = record {
  good = header-of_parts start options h.long h.good (long ∙ ap (λ n. 8 * n) h.options) (ap (options_fault options 0 0) (sym h.options) ∙ none);
  minor = h.minor ∙ sym (minor_of-append start options (omega (arith, h.long)));
  options = h.options ∙ sym (option_count-append start options (omega (arith, h.long)));
}

pub options_stop : (header : Header) (start : List ℕ) (old mid new : Option (List ℕ)) (why : DecodeFault) → StartsHeader header start → Consumes old mid start
    → StopsInOptions header.options mid new why → StopsInHeader old new why
options_stop header start None mid new (Bad fault block offset) h reads stops = (stops.0, stops.1, tt)
options_stop header start (Some bytes) None new (Bad fault block offset) h reads stops = absurd reads
options_stop header start (Some bytes) (Some rest) new (Bad fault block offset) h reads stops = (
  stops.0,
  stops.1,
  ap header_fault reads ∙ header_fault-options start rest h.long h.good
      ∙ ap (λ n. refuse (nat_lt (length rest) (8 * n)) Truncated (options_fault rest 0 0 n)) (sym h.options) ∙ stops.2,
)
options_stop header start old mid new ReadFault h reads (part, came, short) = (
  start ++ part,
  Consumes-trans old mid new start part reads came,
  inr (
    start_fault-append start part (omega (arith, h.long)) ∙ h.good,
    omega (arith, length-append start part, header_length-append start part (omega (arith, h.long)), h.long, h.options, short),
  ),
)
options_stop header start old mid new WantMemory h reads stops = absurd stops

-- the first block follows so many options
abbrev behind_options : ℕ → Position
behind_options n = record { number = 1; offset = 16 + 8 * n; in_section = false; inside = 0; outside = 0 }

-- the blocks behind a header in order, whatever they are
pub behind_header : (header : Header) (bytes rest : List ℕ) → IsHeader header bytes → blocks_of (bytes ++ rest) ≡ blocks_from header.minor (start_of header) rest
behind_header header bytes rest is =
    blocks_of-header bytes rest is.good
    ∙ ap (λ m. blocks_from m (first_position bytes) rest) (sym is.minor)
    ∙ ap (λ n. blocks_from header.minor (behind_options n) rest) (sym is.options)

pub header_gives : (old new : Option (List ℕ)) (header : Header) (bytes : List ℕ) → IsHeader header bytes → Consumes old new bytes
    → IfTold old new (GivesHeader (Ok header))
header_gives None new header bytes is reads = tt
header_gives (Some all) None header bytes is reads = absurd reads
header_gives (Some all) (Some rest) header bytes is reads = (
  ap blocks_of reads ∙ behind_header header bytes rest is,
  is.minor ∙ sym (ap minor_of reads ∙ minor_of-append bytes rest is.good.there),
)

pub header_fails : (old new : Option (List ℕ)) (why : DecodeFault) → ReadsSome old new → StopsInHeader old new why → IfTold old new (GivesHeader (Err why))
header_fails None new why reads stops = tt
header_fails (Some all) None why reads stops = absurd reads.1
header_fails (Some all) (Some rest) (Bad fault block offset) reads stops =
    blocks_of-bad all fault stops.2
    ∙ ap (λ n. only_end (bad fault n 0)) (sym stops.0)
    ∙ ap (λ n. only_end (bad fault block n)) (sym stops.1)
header_fails (Some all) (Some rest) ReadFault reads stops = tt
header_fails (Some all) (Some rest) WantMemory reads stops = tt

versions : (m : ℕ) → (m ≡ 1) ⊎ (m ≡ 2) → (1 ≤ m) × (m ≤ 2)
versions m (inl is) = (omega arith, omega arith)
versions m (inr is) = (omega arith, omega arith)

-- a header in order is of minor version 1 or 2, and has 16 options or fewer
pub header_bounds : (header : Header) (bytes : List ℕ) → IsHeader header bytes → (1 ≤ header.minor) × (header.minor ≤ 2) × (header.options ≤ 16)
header_bounds header bytes is =
    let (low, high) = versions (minor_of bytes) (start_minor bytes is.good.start) in
    (omega (arith, low, is.minor), omega (arith, high, is.minor), omega (arith, start_options bytes is.good.start, is.options))

-- the first position is in reach
pub start_in_reach : (header : Header) → header.options ≤ 16 → IsInReach (start_of header)
start_in_reach header few = record { counted = refl; inside = omega arith; outside = omega arith; offset = omega arith }
