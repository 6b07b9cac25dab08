-- The block that a buffer holds, and what a decoder answers by it.
use Rattle.std.proofs.Common.{◌≡◌, ℕ, ◌+◌, ◌^◌, ◌<◌, ◌≤◌, ◌⊎◌, inl, inr, Bool, true, false, not, ◌&&◌, ◌||◌, nat_le, if◌then◌else◌, List, [], ◌++◌, length, take, drop, drop_at, take_all, Some, None, Ok, Err, Option, subst, sym, ap, ◌∙◌, arith, append_assoc, length-append}
use Rattle.std.proofs.lemmas.Bool.{cases_lt}
use Rattle.std.proofs.lemmas.Bool.Decides.{nat_tests}
use Rattle.std.specs.Io.KnownBytes.{Consumes, IsAtEnd}
use Rattle.gfx_types.specs.declared.names.Fault.{Fault}
use Rattle.gfx_types.specs.declared.names.Fault.TheVariants.{TooManyBlocks}
use Rattle.gfx_model.specs.Blocks.{Position, Content, bad, clean, next_position, payload_field, size_field, type_field, side_count}
use Rattle.gfx_grammar.specs.Framing.{IsBlock, head_fault, marks, past, side}
use Rattle.gfx_grammar.specs.Rows.{read_content}
use Rattle.gfx_grammar.specs.Splitting.{Stops, blocks_from, breaks, front, only_end, payload_fault, with_item, with_payload}
use Rattle.gfx_grammar.proofs.FramingLaws.{head_fault-append, next_position-past, refuse-false, side_count-side, size_field-append, type_field-append}
use Rattle.gfx_grammar.proofs.FrontLaws.{front-empty, front-with_payload}
use Rattle.gfx_grammar.proofs.AloneLaws.{blocks_from-append, blocks_from-as}
use Rattle.gfx_blocks.specs.Payloads.{content_of}
use Rattle.gfx_io.specs.Told.{IfTold}
use Rattle.gfx_decode.specs.declared.decoder.Raw.{Raw}
use Rattle.gfx_decode.specs.declared.fault.DecodeFault.{DecodeFault}
use Rattle.gfx_decode.specs.declared.fault.DecodeFault.TheVariants.{Bad, ReadFault, WantMemory}
use Rattle.gfx_decode.specs.Decoding.{Gives, IsBlockAt, IsBlockHere, coming, item_of}
use Rattle.gfx_decode.specs.Reachable.{IsInReach}
use Rattle.gfx_decode.specs.Reading.{IsFramed, ReadsSome, StopsAt}
use Rattle.gfx_decode.specs.Stage.{Stage, At}

-- ---- the bytes of a framed block

pub framed-long : (kind size : ℕ) (bytes : List ℕ) → IsFramed kind size bytes → length bytes ≡ 12 + size
framed-long kind size bytes h = omega (arith, ap length h.parts, length-append h.head h.payload, h.good.there, h.long)

pub framed-payload : (kind size : ℕ) (bytes : List ℕ) (h : IsFramed kind size bytes) → drop 12 bytes ≡ h.payload
framed-payload kind size bytes h = ap (drop 12) h.parts ∙ drop_at h.head h.payload 12 h.good.there

-- the fields of its head are those of the bytes
framed-fields : (kind size : ℕ) (bytes : List ℕ) → IsFramed kind size bytes → (head_fault bytes ≡ None) × (type_field bytes ≡ kind) × (size_field bytes ≡ size)
framed-fields kind size bytes h =
    let there : 12 ≤ length h.head = omega (arith, h.good.there) in (
      ap head_fault h.parts ∙ head_fault-append h.head h.payload there ∙ h.good.good,
      ap type_field h.parts ∙ type_field-append h.head h.payload there ∙ h.good.kind_is,
      ap size_field h.parts ∙ size_field-append h.head h.payload there ∙ h.good.size_is,
    )

-- a payload that says something makes a block
pub framed-block : (m kind size : ℕ) (bytes payload : List ℕ) (content : Content) → IsFramed kind size bytes → payload ≡ drop 12 bytes
    → read_content m kind payload ≡ Some content → IsBlock m bytes content
framed-block m kind size bytes payload content h is says =
    let (good, kinds, sizes) = framed-fields kind size bytes h in
    let long = framed-long kind size bytes h in
    let own : payload_field bytes ≡ payload =
    ap (λ n. take n (drop 12 bytes)) sizes ∙ ap (take size) (framed-payload kind size bytes h) ∙ take_all size h.payload (omega (arith, h.long))
    ∙ sym (framed-payload kind size bytes h) ∙ sym is in
    record {
      long = omega (arith, long, sizes);
      head = good;
      payload = ap (λ k. read_content m k (payload_field bytes)) kinds ∙ ap (read_content m kind) own ∙ says;
    }

-- the side on which it counts, and the position behind it
pub framed-side : (at : Position) (kind size : ℕ) (bytes payload : List ℕ) → IsFramed kind size bytes → payload ≡ drop 12 bytes → side_count at bytes ≡ side at (marks 1 kind size payload)
framed-side at kind size bytes payload h is =
    ap (side_count at) h.parts ∙ side_count-side at kind size h.head h.payload h.good
    ∙ ap (λ xs. side at (marks 1 kind size xs)) (sym (framed-payload kind size bytes h) ∙ sym is)

pub framed-past : (at : Position) (kind size : ℕ) (bytes payload : List ℕ) → IsFramed kind size bytes → payload ≡ drop 12 bytes
    → next_position at bytes ≡ past at size (marks 1 kind size payload) (marks 2 kind size payload)
framed-past at kind size bytes payload h is =
    let same : h.payload ≡ payload = sym (framed-payload kind size bytes h) ∙ sym is in
    ap (next_position at) h.parts ∙ next_position-past at kind size h.head h.payload h.good
    ∙ ap (λ xs. past at size (marks 1 kind size xs) (marks 2 kind size xs)) same

-- no side has more blocks than it may have
in_reach : (at : Position) (size : ℕ) (begins ends inside : Bool) → IsInReach at → size ≤ 2 ^ 27
    → let count = (if inside then at.inside else at.outside) in count < 2 ^ 32
    → IsInReach (record { number = at.number + 1; offset = at.offset + 12 + size; in_section = inside && not ends; inside = if inside then at.inside + 1 else at.inside; outside = if inside then at.outside else at.outside + 1 })
in_reach at size begins ends true reach small room = record {
  counted = omega (arith, reach.counted);
  inside = omega arith;
  outside = reach.outside;
  offset = omega (arith, reach.offset);
}
in_reach at size begins ends false reach small room = record {
  counted = omega (arith, reach.counted);
  inside = reach.inside;
  outside = omega arith;
  offset = omega (arith, reach.offset);
}

pub past-in_reach : (at : Position) (size : ℕ) (begins ends : Bool) → IsInReach at → size ≤ 2 ^ 27 → side at begins < 2 ^ 32 → IsInReach (past at size begins ends)
past-in_reach at size begins ends reach small room = in_reach at size begins ends (at.in_section || begins) reach small room

-- ---- a block without room, or without content, whatever follows it

pub full : (n : ℕ) → nat_le (2 ^ 32) n ≡ true → 2 ^ 32 ≤ n
full n is = grind (arith, nat_tests)

pub not_full : (n : ℕ) → nat_le (2 ^ 32) n ≡ false → n < 2 ^ 32
not_full n is = grind (arith, nat_tests)

below : (n : ℕ) → n < 2 ^ 32 → nat_le (2 ^ 32) n ≡ false
below n is = grind (arith, nat_tests)

pub breaks_payload : (m : ℕ) (at : Position) (kind size : ℕ) (bytes payload rest : List ℕ) (fault : Fault) → IsFramed kind size bytes → payload ≡ drop 12 bytes
    → nat_le (2 ^ 32) (side at (marks 1 kind size payload)) ≡ false → read_content m kind payload ≡ None → fault ≡ payload_fault kind payload
    → front m at (bytes ++ rest) ≡ breaks at fault
breaks_payload m at kind size bytes payload rest fault h is room none because =
    let same : payload ≡ h.payload = is ∙ framed-payload kind size bytes h in
    ap (λ (xs : List ℕ). front m at (xs ++ rest)) h.parts ∙ ap (front m at) (append_assoc h.head h.payload rest)
    ∙ front-with_payload m at kind size h.head h.payload rest h.good h.long
    (refuse-false (nat_le (2 ^ 32) (side at (marks 1 kind size h.payload))) TooManyBlocks None (subst (λ xs. nat_le (2 ^ 32) (side at (marks 1 kind size xs)) ≡ false) same room))
    ∙ ap (with_payload at (h.head ++ h.payload) kind h.payload) (ap (read_content m kind) (sym same) ∙ none)
    ∙ ap (λ xs. breaks at (payload_fault kind xs)) (sym same)
    ∙ ap (breaks at) (sym because)

-- ---- what a decoder answers

pub gives_end : (stage : Stage) (m : ℕ) (at : Position) (old new : Option (List ℕ)) → stage ≡ At m at → Consumes old new [] → IsAtEnd new → IfTold old new (Gives stage (Ok None))
gives_end stage m at None new place reads ends = tt
gives_end stage m at (Some bytes) None place reads ends = absurd reads
gives_end stage m at (Some bytes) (Some rest) place reads ends =
    ap (λ (s : Stage). coming s bytes) place
    ∙ blocks_from-as m at bytes (Stops clean) (front-empty m at bytes (ap length (reads ∙ ends)))

pub gives_fault : (stage : Stage) (m : ℕ) (at : Position) (old new : Option (List ℕ)) (why : DecodeFault) → stage ≡ At m at → ReadsSome old new → StopsAt m at old new why → IfTold old new (Gives stage (Err why))
gives_fault stage m at None new why place reads stops = tt
gives_fault stage m at (Some bytes) None why place reads stops = absurd reads.1
gives_fault stage m at (Some bytes) (Some rest) (Bad fault block offset) place reads stops =
    ap (λ (s : Stage). coming s bytes) place
    ∙ blocks_from-as m at bytes (breaks at fault) stops.2
    ∙ ap (λ n. only_end (bad fault n at.offset)) (sym stops.0)
    ∙ ap (λ n. only_end (bad fault block n)) (sym stops.1)
gives_fault stage m at (Some bytes) (Some rest) ReadFault place reads stops = tt
gives_fault stage m at (Some bytes) (Some rest) WantMemory place reads stops = tt

pub stops_there : (stage : Stage) (m n : ℕ) (at there : Position) (old new : Option (List ℕ)) (why : DecodeFault) → stage ≡ At m at → stage ≡ At n there → StopsAt m at old new why → StopsAt n there old new why
stops_there stage m n at there old new why here also stops =
    let same : m ≡ n = cc in
    let place : at ≡ there = cc in
    subst (λ k. StopsAt k there old new why) same (subst (λ p. StopsAt m p old new why) place stops)

-- what a decoder answers at a whole block
pub record FindsBlock (stage : Stage) (raw : Raw) (old new : Option (List ℕ)) : Type 0 where
  pub gives : IfTold old new (Gives stage (Ok (Some raw)))
  pub block : IsBlockAt stage raw
  pub bytes : Consumes old new raw.bytes.now

-- the block comes first of whatever its bytes begin
pub here_comes : (m : ℕ) (at : Position) (raw : Raw) (rest : List ℕ) → IsBlockHere m at raw
    → blocks_from m at (raw.bytes.now ++ rest) ≡ with_item (item_of raw) (blocks_from m (next_position at raw.bytes.now) rest)
here_comes m at raw rest here =
    let c = content_of raw.block in
    blocks_from-append m at raw.bytes.now rest c here.block here.counted
    ∙ ap (λ n. with_item (record { number = n; offset = at.offset; bytes = raw.bytes.now; content = c }) (blocks_from m (next_position at raw.bytes.now) rest)) (sym here.number)
    ∙ ap (λ n. with_item (record { number = raw.number; offset = n; bytes = raw.bytes.now; content = c }) (blocks_from m (next_position at raw.bytes.now) rest)) (sym here.offset)

gives_item : (m : ℕ) (at : Position) (raw : Raw) (old new : Option (List ℕ)) → IsBlockHere m at raw → Consumes old new raw.bytes.now
    → IfTold old new (Gives (At m at) (Ok (Some raw)))
gives_item m at raw None new here reads = tt
gives_item m at raw (Some bytes) None here reads = absurd reads
gives_item m at raw (Some bytes) (Some rest) here reads = ap (blocks_from m at) reads ∙ here_comes m at raw rest here

pub finds_block : (stage : Stage) (m : ℕ) (at : Position) (raw : Raw) (old new : Option (List ℕ)) (buffer held : List ℕ)
    → stage ≡ At m at → raw.number ≡ at.number → raw.offset ≡ at.offset → raw.bytes.now ≡ buffer → held ≡ buffer
    → IsBlock m held (content_of raw.block) → side_count at held < 2 ^ 32 → Consumes old new buffer → FindsBlock stage raw old new
finds_block stage m at raw old new buffer held place number offset kept same says counted reads =
    let own : held ≡ raw.bytes.now = same ∙ sym kept in
    let here : IsBlockHere m at raw = record {
      number = number;
      offset = offset;
      block = subst (λ xs. IsBlock m xs (content_of raw.block)) own says;
      counted = subst (λ xs. side_count at xs < 2 ^ 32) own counted;
    } in
    let bytes : Consumes old new raw.bytes.now = subst (Consumes old new) (sym kept) reads in
    record {
      gives = subst (λ s. IfTold old new (Gives s (Ok (Some raw)))) (sym place) (gives_item m at raw old new here bytes);
      block = subst (λ s. IsBlockAt s raw) (sym place) here;
      bytes = bytes;
    }

-- versions 1 and 2
pub one_of_two : (m : ℕ) → 1 ≤ m → m ≤ 2 → (m ≡ 1) ⊎ (m ≡ 2)
one_of_two m low high = elim (cases_lt m 2) [ inl few ↦ inl (omega arith) | inr many ↦ inr (omega arith) ]

-- a block that was framed and has room in the buffer does not break the count
pub room_left : (at : Position) (kind size : ℕ) (bytes payload : List ℕ) → IsFramed kind size bytes → payload ≡ drop 12 bytes → side_count at bytes < 2 ^ 32
    → nat_le (2 ^ 32) (side at (marks 1 kind size payload)) ≡ false
room_left at kind size bytes payload h is room =
    below (side at (marks 1 kind size payload)) (subst (λ n. n < 2 ^ 32) (framed-side at kind size bytes payload h is) room)
