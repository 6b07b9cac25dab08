-- Why no block came, where its head or its payload is at fault.
use Rattle.std.proofs.Common.{◌≡◌, ℕ, ◌+◌, ◌^◌, ◌<◌, ◌≤◌, ◌&&◌, not, nat_le, nat_lt, inl, inr, List, ◌++◌, length, length-append, append_assoc, Some, None, Option, Bool, true, false, refl, subst, sym, ap, ◌∙◌, arith, append-nil}
use Rattle.std.specs.Io.KnownBytes.{Consumes, IsAtEnd}
use Rattle.std.proofs.KnownBytes.{Consumes-trans}
use Rattle.std.specs.Prelude.{IfSome}
use Rattle.gfx_types.specs.declared.names.Fault.{Fault}
use Rattle.gfx_types.specs.declared.names.Fault.TheVariants.{Truncated, TooManyBlocks}
use Rattle.gfx_model.specs.Blocks.{Position, Whole, refuse, side_count}
use Rattle.gfx_grammar.specs.Framing.{IsHead, count_fault, head_fault, marks, side}
use Rattle.gfx_grammar.specs.Splitting.{Finds, breaks, front}
use Rattle.gfx_grammar.proofs.FramingLaws.{framing-head_fault, framing-payload, framing-short, head_fault-append, marks-append, marks-cut, refuse-true, size_field-append}
use Rattle.gfx_grammar.proofs.FrontLaws.{front-fault, whole-front}
use Rattle.std.proofs.lemmas.Bool.{lt-ltb, le-leb}
use Rattle.gfx_decode.specs.declared.fault.DecodeFault.{DecodeFault}
use Rattle.gfx_decode.specs.declared.fault.DecodeFault.TheVariants.{Bad, ReadFault, WantMemory}
use Rattle.gfx_decode.specs.Reading.{HasRoom, IsBlockCut, IsCutFault, IsFramed, IsFramingFault, IsInBlock, IsPayloadCut, StopsAt, StopsFraming, StopsInBytes, StopsInPayload, StopsShort}
use Rattle.gfx_decode.specs.Stage.{Stage, At}
use Rattle.gfx_decode.proofs.Finding.{framed-payload, framed-side, not_full}

-- no block is found where it isn't whole
pub cut_finds_none : (m : ℕ) (at : Position) (bytes : List ℕ) (w : Whole) → IsBlockCut at bytes → front m at bytes ≡ Finds w → ⊥
cut_finds_none m at bytes w (inl short) is = let whole = whole-front m at bytes w is in omega (arith, short, whole.there)
cut_finds_none m at bytes w (inr cut) is = let whole = whole-front m at bytes w is in omega (arith, cut.short, whole.payload_there)

-- a head in order, with fewer bytes behind it than it says
payload_cut : (at : Position) (kind size : ℕ) (head part : List ℕ) → IsHead kind size head → HasRoom at → length part < size → IsPayloadCut at (head ++ part)
payload_cut at kind size head part h room short = record {
  head = head_fault-append head part (omega (arith, h.there)) ∙ h.good;
  room = room;
  short = omega (arith, length-append head part, h.there, short, size_field-append head part (omega (arith, h.there)), h.size_is);
}

-- a head in order, with no more bytes behind it than it says
pub in_block : (at : Position) (kind size : ℕ) (head part : List ℕ) → IsHead kind size head → HasRoom at → length part ≤ size → IsInBlock at (head ++ part)
in_block at kind size head part h room few = record {
  head = head_fault-append head part (omega (arith, h.there)) ∙ h.good;
  room = room;
  within = omega (arith, length-append head part, h.there, few, size_field-append head part (omega (arith, h.there)), h.size_is);
}

-- ---- faults of the framing

some_behind : (kind size : ℕ) (head rest : List ℕ) → IsHead kind size head → 0 < length (head ++ rest)
some_behind kind size head rest h = omega (arith, length-append head rest, h.there)

first_refusal : (b : Bool) (f : Fault) (rest : Option Fault) → refuse b TooManyBlocks None ≡ Some f → refuse b TooManyBlocks rest ≡ Some f
first_refusal true f rest is = is
first_refusal false f rest is = absurd cc

no_refusal : (b : Bool) (rest : Option Fault) → refuse b TooManyBlocks None ≡ None → refuse b TooManyBlocks rest ≡ rest
no_refusal true rest is = absurd cc
no_refusal false rest is = refl

-- as many blocks on this side as there may be
pub counts_too_many : (at : Position) (kind size : ℕ) (head rest : List ℕ) (f : Fault) → IsHead kind size head → count_fault at (marks 1 kind size rest) ≡ Some f
    → IsFramingFault at (head ++ rest) f
counts_too_many at kind size head rest f h is = (
  some_behind kind size head rest h,
  framing-payload at kind size head rest h ∙ first_refusal (nat_le (2 ^ 32) (side at (marks 1 kind size rest))) f (refuse (nat_lt (length rest) size) Truncated None) is,
)

-- a head that breaks a step
pub head_breaks : (at : Position) (head rest : List ℕ) (f : Fault) → length head ≡ 12 → head_fault head ≡ Some f → IsFramingFault at (head ++ rest) f
head_breaks at head rest f there is = (omega (arith, length-append head rest, there), framing-head_fault at head rest f there is)

-- a whole block without room on its side, whatever follows it
pub side_full : (at : Position) (kind size : ℕ) (bytes : List ℕ) → IsFramed kind size bytes → 2 ^ 32 ≤ side_count at bytes → (rest : List ℕ)
    → IsFramingFault at (bytes ++ rest) TooManyBlocks
side_full at kind size bytes h full rest =
    let count : side_count at bytes ≡ side at (marks 1 kind size h.payload) = framed-side at kind size bytes h.payload h (sym (framed-payload kind size bytes h)) in
    let crowded : count_fault at (marks 1 kind size (h.payload ++ rest)) ≡ Some TooManyBlocks =
    ap (count_fault at) (marks-append 1 kind size h.payload rest h.long)
    ∙ refuse-true (nat_le (2 ^ 32) (side at (marks 1 kind size h.payload))) TooManyBlocks None
    (le-leb (2 ^ 32) (side at (marks 1 kind size h.payload)) (subst (λ n. 2 ^ 32 ≤ n) count full)) in
    subst (λ xs. IsFramingFault at xs TooManyBlocks) (sym (ap (λ xs. xs ++ rest) h.parts ∙ append_assoc h.head h.payload rest))
    (counts_too_many at kind size h.head (h.payload ++ rest) TooManyBlocks h.good crowded)

-- a block without room on either side of the section, whatever follows its head
pub no_room : (at : Position) (kind size : ℕ) (head rest : List ℕ) → IsHead kind size head → not (nat_le (2 ^ 32) (side at false) && nat_le (2 ^ 32) (side at true)) ≡ false
    → IsFramingFault at (head ++ rest) TooManyBlocks
no_room at kind size head rest h none = counts_too_many at kind size head rest TooManyBlocks h (by (marks 1 kind size rest))
  where
    both : (a b : Bool) → not (a && b) ≡ false → (a ≡ true) × (b ≡ true)
    both true true none = (refl, refl)
    both true false none = absurd cc
    both false b none = absurd cc

    by : (begins : Bool) → count_fault at begins ≡ Some TooManyBlocks
    by false = refuse-true (nat_le (2 ^ 32) (side at false)) TooManyBlocks None (both _ _ none).0
    by true = refuse-true (nat_le (2 ^ 32) (side at true)) TooManyBlocks None (both _ _ none).1

-- room on one of them
pub some_room : (at : Position) → not (nat_le (2 ^ 32) (side at false) && nat_le (2 ^ 32) (side at true)) ≡ true → HasRoom at
some_room at is = by (nat_le (2 ^ 32) (side at false)) (nat_le (2 ^ 32) (side at true)) refl refl is
  where
    by : (a b : Bool) → nat_le (2 ^ 32) (side at false) ≡ a → nat_le (2 ^ 32) (side at true) ≡ b → not (a && b) ≡ true → HasRoom at
    by false b outside inside some = inl (not_full (side at false) outside)
    by true false outside inside some = inr (not_full (side at true) inside)
    by true true outside inside some = absurd cc

-- the input ends before so many bytes
pub ends_before : (old new : Option (List ℕ)) (got : List ℕ) (size : ℕ) → Consumes old new got → IsAtEnd new → length got < size → IfSome old (λ rest. length rest < size)
ends_before None new got size reads ends short = tt
ends_before (Some bytes) None got size reads ends short = absurd reads
ends_before (Some bytes) (Some rest) got size reads ends short = omega (arith, ap length reads, length-append got rest, ap length ends, short)

-- the input ends in a block's head
pub stops_short : (at : Position) (old new : Option (List ℕ)) (got : List ℕ) → Consumes old new got → IsAtEnd new → 0 < length got → length got < 12
    → IfSome old (λ bytes. IsFramingFault at bytes Truncated)
stops_short at None new got reads ends some short = tt
stops_short at (Some bytes) None got reads ends some short = absurd reads
stops_short at (Some bytes) (Some rest) got reads ends some short =
    let same : bytes ≡ got = reads ∙ ap (λ (xs : List ℕ). got ++ xs) ends ∙ append-nil got in
    subst (λ (xs : List ℕ). IsFramingFault at xs Truncated) (sym same) (some, framing-short at got short)

-- what holds of the head however it goes on holds of the bytes that it was read from
pub stops_behind : (P : List ℕ → Type 0) (old new : Option (List ℕ)) (head : List ℕ) → Consumes old new head → ((rest : List ℕ) → P (head ++ rest)) → IfSome old P
stops_behind P None new head reads stops = tt
stops_behind P (Some bytes) None head reads stops = absurd reads
stops_behind P (Some bytes) (Some rest) head reads stops = subst P (sym reads) (stops rest)

-- a payload that is cut short breaks this step
cut_breaks : (at : Position) (kind size : ℕ) (head rest : List ℕ) (fault : Fault) → IsHead kind size head → length rest < size → IsCutFault at fault
    → IsFramingFault at (head ++ rest) fault
cut_breaks at kind size head rest fault h short (inl full) =
    counts_too_many at kind size head rest fault h (ap (count_fault at) (marks-cut 1 kind size rest short) ∙ full)
cut_breaks at kind size head rest fault h short (inr (room, is)) =
    let counted : count_fault at (marks 1 kind size rest) ≡ None = ap (count_fault at) (marks-cut 1 kind size rest short) ∙ room in (
      some_behind kind size head rest h,
      framing-payload at kind size head rest h
          ∙ no_refusal (nat_le (2 ^ 32) (side at (marks 1 kind size rest))) (refuse (nat_lt (length rest) size) Truncated None) counted
          ∙ refuse-true (nat_lt (length rest) size) Truncated None (lt-ltb (length rest) size short)
          ∙ ap Some (sym is),
    )

-- a fault in the payload is one of the block
pub stops_in_payload : (at : Position) (kind size : ℕ) (old mid new : Option (List ℕ)) (head : List ℕ) (why : DecodeFault)
    → IsHead kind size head → HasRoom at → Consumes old mid head → StopsInPayload size at mid new why → StopsFraming at old new why
stops_in_payload at kind size None mid new head (Bad fault block offset) h room reads stops = (stops.0, stops.1, tt)
stops_in_payload at kind size (Some bytes) None new head (Bad fault block offset) h room reads stops = absurd reads
stops_in_payload at kind size (Some bytes) (Some rest) new head (Bad fault block offset) h room reads stops = (
  stops.0,
  stops.1,
  subst (λ (xs : List ℕ). IsFramingFault at xs fault) (sym reads) (cut_breaks at kind size head rest fault h stops.3 stops.2),
)
stops_in_payload at kind size old mid new head ReadFault h room reads stops =
    let (part, came, short) = stops in
    (head ++ part, Consumes-trans old mid new head part reads came, inr (payload_cut at kind size head part h room short))
stops_in_payload at kind size old mid new head WantMemory h room reads stops = tt

-- a side that is full is a fault of the framing
pub side_stops : (at : Position) (kind size : ℕ) (old new : Option (List ℕ)) (bytes : List ℕ) (why : DecodeFault) → IsFramed kind size bytes → Consumes old new bytes
    → 2 ^ 32 ≤ side_count at bytes → why ≡ Bad TooManyBlocks at.number at.offset → StopsFraming at old new why
side_stops at kind size old new bytes why h reads full is =
    subst (StopsFraming at old new) (sym is) (refl, refl, stops_behind (λ xs. IsFramingFault at xs TooManyBlocks) old new bytes reads (side_full at kind size bytes h full))

-- the place of a decoder is one
pub framing_there : (stage : Stage) (m n : ℕ) (at there : Position) (old new : Option (List ℕ)) (why : DecodeFault) → stage ≡ At m at → stage ≡ At n there
    → StopsFraming at old new why → StopsFraming there old new why
framing_there stage m n at there old new why here also stops =
    let place : at ≡ there = cc in
    subst (λ p. StopsFraming p old new why) place stops

-- a fault of the framing is one of the block, in each minor version
pub framing_stops : (m : ℕ) (at : Position) (old new : Option (List ℕ)) (why : DecodeFault) → StopsFraming at old new why → StopsAt m at old new why
framing_stops m at None new (Bad fault block offset) stops = (stops.0, stops.1, tt)
framing_stops m at (Some bytes) new (Bad fault block offset) stops = (stops.0, stops.1, front-fault m at bytes fault stops.2.0 stops.2.1)
framing_stops m at old new ReadFault stops = stops
framing_stops m at old new WantMemory stops = tt

-- a fault in the bytes that were read is one of the block
pub stops_in_bytes : (m : ℕ) (at : Position) (old new : Option (List ℕ)) (bytes : List ℕ) (why : DecodeFault) → StopsInBytes m at bytes why → Consumes old new bytes → StopsAt m at old new why
stops_in_bytes m at old new bytes (Bad fault block offset) stops reads = (stops.0, stops.1, stops_behind (λ xs. front m at xs ≡ breaks at fault) old new bytes reads stops.2)
stops_in_bytes m at old new bytes ReadFault stops reads = absurd stops
stops_in_bytes m at old new bytes WantMemory stops reads = tt

-- fewer bytes came than the payload still lacked
pub stops_in_piece : (size most : ℕ) (at : Position) (old mid new : Option (List ℕ)) (part : List ℕ) (why : DecodeFault) → Consumes old mid part
    → StopsShort most mid new why → length part + most ≤ size → StopsInPayload size at old new why
stops_in_piece size most at old mid new part (Bad fault block offset) came stops fits = absurd stops
stops_in_piece size most at old mid new part ReadFault came (piece, more, short) fits =
    (part ++ piece, Consumes-trans _ _ _ part piece came more, omega (arith, short, fits, length-append part piece))
stops_in_piece size most at old mid new part WantMemory came stops fits = tt
