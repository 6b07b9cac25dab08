-- What is at the start of bytes, by how far they go. In each case the bytes of the block may go on.
use Rattle.std.proofs.Common.{◌≡◌, ℕ, ◌+◌, ◌^◌, ◌<◌, ◌≤◌, Bool, true, false, nat_lt, nat_le, List, [], ◌∷◌, ◌++◌, length, take, drop, Option, Some, None, refl, sym, ap, ◌∙◌, arith, inl, inr, append_assoc, length-append}
use Rattle.std.proofs.lemmas.Bool.{cases_lt, le-ltb, lt-ltb, lt-leb, ltb-false, leb-false}
use Rattle.std.proofs.lemmas.List.{take_at, drop_at}
use Rattle.gfx_types.specs.declared.names.Fault.{Fault}
use Rattle.gfx_types.specs.declared.names.Fault.TheVariants.{Truncated, TooManyBlocks}
use Rattle.gfx_model.specs.Blocks.{refuse, Position, size_field, type_field, payload_field, side_count, framing_fault, Content, Whole, clean}
use Rattle.gfx_grammar.specs.Rows.{read_content}
use Rattle.gfx_grammar.specs.Splitting.{Stops, Finds, breaks, block_at, with_payload, with_content, with_framing, front}
use Rattle.gfx_grammar.specs.Framing.{head_fault, IsHead, marks, side, count_fault, IsWhole}
use Rattle.gfx_grammar.proofs.FramingLaws.{refuse_none, refuse-true, refuse-false, behind_head, size_field-append, type_field-append, marks-cut, marks-append, framing-short, framing-long, framing-head_fault, framing-payload}

pub front-empty : (m : ℕ) (at : Position) (bytes : List ℕ) → length bytes ≡ 0 → front m at bytes ≡ Stops clean
unfolding front
front-empty m at [] none = refl
front-empty m at (b ∷ bytes) none = absurd (omega (arith, none))

-- where a byte is left, the framing decides
pub front-framing : (m : ℕ) (at : Position) (bytes : List ℕ) → 0 < length bytes → front m at bytes ≡ with_framing m at bytes (framing_fault at bytes)
unfolding front
front-framing m at [] some = absurd (omega (arith, some))
front-framing m at (b ∷ bytes) some = refl

pub front-fault : (m : ℕ) (at : Position) (bytes : List ℕ) (f : Fault) → 0 < length bytes → framing_fault at bytes ≡ Some f → front m at bytes ≡ breaks at f
front-fault m at bytes f some is = front-framing m at bytes some ∙ ap (with_framing m at bytes) is

pub front-short : (m : ℕ) (at : Position) (bytes : List ℕ) → 0 < length bytes → length bytes < 12 → front m at bytes ≡ breaks at Truncated
front-short m at bytes some short = front-fault m at bytes Truncated some (framing-short at bytes short)

pub front-head_fault : (m : ℕ) (at : Position) (head rest : List ℕ) (f : Fault) → length head ≡ 12 → head_fault head ≡ Some f → front m at (head ++ rest) ≡ breaks at f
front-head_fault m at head rest f there is =
    front-fault m at (head ++ rest) f (omega (arith, length-append head rest)) (framing-head_fault at head rest f there is)

-- ---- behind a head in order

some_behind : (kind size : ℕ) (head rest : List ℕ) → IsHead kind size head → 0 < length (head ++ rest)
some_behind kind size head rest h = omega (arith, length-append head rest, h.there)

first_refusal : (b : Bool) (f : Fault) (rest : Option Fault) → refuse b TooManyBlocks None ≡ Some f → refuse b TooManyBlocks rest ≡ Some f
first_refusal true f rest is = is
first_refusal false f rest is = absurd cc

count_some : (n : ℕ) (f : Fault) (cut : Bool) → refuse (nat_le (2 ^ 32) n) TooManyBlocks None ≡ Some f → behind_head None n cut ≡ Some f
count_some n f cut is = first_refusal (nat_le (2 ^ 32) n) f (refuse cut Truncated None) is

count_none : (n : ℕ) (cut : Bool) → refuse (nat_le (2 ^ 32) n) TooManyBlocks None ≡ None → behind_head None n cut ≡ refuse cut Truncated None
count_none n cut is = refuse-false (nat_le (2 ^ 32) n) TooManyBlocks _ (refuse_none (nat_le (2 ^ 32) n) TooManyBlocks None is).0

-- as many blocks on this side as there may be
pub front-count_fault : (m : ℕ) (at : Position) (kind size : ℕ) (head rest : List ℕ) (f : Fault) → IsHead kind size head
    → count_fault at (marks 1 kind size rest) ≡ Some f → front m at (head ++ rest) ≡ breaks at f
front-count_fault m at kind size head rest f h is =
    front-fault m at (head ++ rest) f (some_behind kind size head rest h)
    (framing-payload at kind size head rest h ∙ count_some (side at (marks 1 kind size rest)) f (nat_lt (length rest) size) is)

-- the same of a block that is cut short, and of one whose payload is whole
pub front-cut-count_fault : (m : ℕ) (at : Position) (kind size : ℕ) (head rest : List ℕ) (f : Fault) → IsHead kind size head
    → length rest < size → count_fault at false ≡ Some f → front m at (head ++ rest) ≡ breaks at f
front-cut-count_fault m at kind size head rest f h short is =
    front-count_fault m at kind size head rest f h (ap (count_fault at) (marks-cut 1 kind size rest short) ∙ is)

pub front-payload-count_fault : (m : ℕ) (at : Position) (kind size : ℕ) (head payload rest : List ℕ) (f : Fault) → IsHead kind size head
    → length payload ≡ size → count_fault at (marks 1 kind size payload) ≡ Some f → front m at (head ++ (payload ++ rest)) ≡ breaks at f
front-payload-count_fault m at kind size head payload rest f h long is =
    front-count_fault m at kind size head (payload ++ rest) f h (ap (count_fault at) (marks-append 1 kind size payload rest long) ∙ is)

-- the input ends in the payload
pub front-cut : (m : ℕ) (at : Position) (kind size : ℕ) (head rest : List ℕ) → IsHead kind size head
    → length rest < size → count_fault at false ≡ None → front m at (head ++ rest) ≡ breaks at Truncated
front-cut m at kind size head rest h short good =
    let counted : count_fault at (marks 1 kind size rest) ≡ None = ap (count_fault at) (marks-cut 1 kind size rest short) ∙ good in
    front-fault m at (head ++ rest) Truncated (some_behind kind size head rest h)
    (framing-payload at kind size head rest h
    ∙ count_none (side at (marks 1 kind size rest)) (nat_lt (length rest) size) counted
    ∙ refuse-true (nat_lt (length rest) size) Truncated None (lt-ltb (length rest) size short))

-- a whole payload decides by what it says
pub framing-whole : (at : Position) (kind size : ℕ) (head payload rest : List ℕ) → IsHead kind size head
    → length payload ≡ size → count_fault at (marks 1 kind size payload) ≡ None → framing_fault at (head ++ (payload ++ rest)) ≡ None
framing-whole at kind size head payload rest h long good =
    let after = payload ++ rest in
    let counted : count_fault at (marks 1 kind size after) ≡ None = ap (count_fault at) (marks-append 1 kind size payload rest long) ∙ good in
    framing-payload at kind size head after h
    ∙ count_none (side at (marks 1 kind size after)) (nat_lt (length after) size) counted
    ∙ refuse-false (nat_lt (length after) size) Truncated None (le-ltb (length after) size (omega (arith, length-append payload rest)))

pub front-with_payload : (m : ℕ) (at : Position) (kind size : ℕ) (head payload rest : List ℕ) → IsHead kind size head
    → length payload ≡ size → count_fault at (marks 1 kind size payload) ≡ None
    → front m at (head ++ (payload ++ rest)) ≡ with_payload at (head ++ payload) kind payload (read_content m kind payload)
front-with_payload m at kind size head payload rest h long good =
    let bytes = head ++ (payload ++ rest) in
    let kinds : type_field bytes ≡ kind = type_field-append head (payload ++ rest) (omega (arith, h.there)) ∙ h.kind_is in
    let sizes : size_field bytes ≡ size = size_field-append head (payload ++ rest) (omega (arith, h.there)) ∙ h.size_is in
    let load : payload_field bytes ≡ payload =
    ap (λ n. take n (drop 12 bytes)) sizes ∙ ap (take size) (drop_at head (payload ++ rest) 12 h.there) ∙ take_at payload rest size long in
    let one : take (12 + size_field bytes) bytes ≡ head ++ payload =
    ap (λ n. take (12 + n) bytes) sizes
    ∙ ap (take (12 + size)) (sym (append_assoc head payload rest))
    ∙ take_at (head ++ payload) rest (12 + size) (omega (arith, length-append head payload, h.there)) in
    front-framing m at bytes (some_behind kind size head (payload ++ rest) h)
    ∙ ap (with_framing m at bytes) (framing-whole at kind size head payload rest h long good)
    ∙ ap (λ k. with_payload at (take (12 + size_field bytes) bytes) k (payload_field bytes) (read_content m k (payload_field bytes))) kinds
    ∙ ap (λ (xs : List ℕ). with_payload at (take (12 + size_field bytes) bytes) kind xs (read_content m kind xs)) load
    ∙ ap (λ (xs : List ℕ). with_payload at xs kind payload (read_content m kind payload)) one

-- ---- a whole block

head_none : (o : Option Fault) (n : ℕ) (cut : Bool) → behind_head o n cut ≡ None → (o ≡ None) × (nat_le (2 ^ 32) n ≡ false) × (cut ≡ false)
head_none (Some f) n cut is = absurd cc
head_none None n cut is =
    let count = refuse_none (nat_le (2 ^ 32) n) TooManyBlocks _ is in
    (refl, count.0, (refuse_none cut Truncated None count.1).0)

-- the framing breaks no step
pub record IsFramed (at : Position) (bytes : List ℕ) : Type 0 where
  pub there : 12 ≤ length bytes
  pub head : head_fault bytes ≡ None
  pub counted : side_count at bytes < 2 ^ 32
  pub payload_there : 12 + size_field bytes ≤ length bytes

below : (n : ℕ) → nat_le (2 ^ 32) n ≡ false → n < 2 ^ 32
below n is = leb-false (2 ^ 32) n is

pub framing-good : (at : Position) (bytes : List ℕ) → framing_fault at bytes ≡ None → IsFramed at bytes
framing-good at bytes is =
    elim (cases_lt (length bytes) 12) [
      | inl short ↦ absurd (let no_fault = framing-short at bytes short in cc)
      | inr there ↦
          let parts = head_none (head_fault bytes) (side_count at bytes) (nat_lt (length bytes) (12 + size_field bytes)) (sym (framing-long at bytes there) ∙ is) in
          record {
            there = there;
            head = parts.0;
            counted = below (side_count at bytes) parts.1;
            payload_there = ltb-false _ _ parts.2;
          }
    ]

pub good-framing : (at : Position) (bytes : List ℕ) → IsFramed at bytes → framing_fault at bytes ≡ None
good-framing at bytes h =
    framing-long at bytes h.there
    ∙ ap (λ (o : Option Fault). behind_head o (side_count at bytes) (nat_lt (length bytes) (12 + size_field bytes))) h.head
    ∙ refuse-false (nat_le (2 ^ 32) (side_count at bytes)) TooManyBlocks _ (lt-leb (2 ^ 32) (side_count at bytes) h.counted)
    ∙ refuse-false (nat_lt (length bytes) (12 + size_field bytes)) Truncated None (le-ltb (length bytes) (12 + size_field bytes) h.payload_there)

content_finds : (m : ℕ) (at : Position) (bytes : List ℕ) (w : Whole) (o : Option Content) → with_content at bytes o ≡ Finds w
    → (o ≡ Some w.content) × (w ≡ block_at at (take (12 + size_field bytes) bytes) w.content)
content_finds m at bytes w None is = absurd cc
content_finds m at bytes w (Some c) is =
    let same : block_at at (take (12 + size_field bytes) bytes) c ≡ w = cc in
    let content : c ≡ w.content = ap (λ (w : Whole). w.content) same in
    (ap Some content, sym same ∙ ap (block_at at (take (12 + size_field bytes) bytes)) content)

framing_finds : (m : ℕ) (at : Position) (bytes : List ℕ) (w : Whole) (o : Option Fault) → framing_fault at bytes ≡ o → with_framing m at bytes o ≡ Finds w → IsWhole m at bytes w
framing_finds m at bytes w (Some f) framed is = absurd cc
framing_finds m at bytes w None framed is =
    let h = framing-good at bytes framed in
    let found = content_finds m at bytes w (read_content m (type_field bytes) (payload_field bytes)) is in
    record { there = h.there; head = h.head; counted = h.counted; payload_there = h.payload_there; payload = found.0; same = found.1 }

pub whole-front : (m : ℕ) (at : Position) (bytes : List ℕ) (w : Whole) → front m at bytes ≡ Finds w → IsWhole m at bytes w
unfolding front
whole-front m at [] w is = absurd cc
whole-front m at (b ∷ bytes) w is = framing_finds m at (b ∷ bytes) w (framing_fault at (b ∷ bytes)) refl is

pub front-whole : (m : ℕ) (at : Position) (bytes : List ℕ) (w : Whole) → IsWhole m at bytes w → front m at bytes ≡ Finds w
front-whole m at bytes w h =
    front-framing m at bytes (omega (arith, h.there))
    ∙ ap (with_framing m at bytes) (good-framing at bytes (record { there = h.there; head = h.head; counted = h.counted; payload_there = h.payload_there }))
    ∙ ap (with_content at bytes) h.payload
    ∙ ap Finds (sym h.same)
