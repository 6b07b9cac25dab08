-- What a block's twelve bytes of size and type decide, and what its payload decides, whatever follows it.
use Rattle.std.proofs.Common.{◌≡◌, ℕ, ◌+◌, ◌^◌, ◌<◌, ◌≤◌, Bool, true, false, not, ◌&&◌, ◌||◌, cond, nat_lt, nat_le, nat_eq, List, ◌++◌, length, take, drop, Option, Some, None, refl, sym, ap, ◌∙◌, arith, length-drop, length-append}
use Rattle.std.specs.Int.{w32, w64, from_le_bytes}
use Rattle.std.proofs.lemmas.Bool.{ltb-false, le-ltb, lt-ltb, le-leb, eqb-true}
use Rattle.std.proofs.lemmas.Bool.Decides.{nat_tests}
use Rattle.std.proofs.lemmas.List.{drop_at, drop-append-le, take-append-le}
use Rattle.gfx_types.specs.declared.names.Fault.{Fault}
use Rattle.gfx_types.specs.declared.names.Fault.TheVariants.{Compressed, Truncated, BlockTooLarge, UnknownBlock, TooManyBlocks}
use Rattle.gfx_model.specs.Blocks.{u32_at, u64_at, refuse, or_else, Position, size_field, type_field, payload_field, is_marker, side_count, framing_fault, next_position}
use Rattle.gfx_grammar.specs.Framing.{head_fault, IsHead, marks, side, past}

-- ---- steps

pub refuse_none : (b : Bool) (f : Fault) (rest : Option Fault) → refuse b f rest ≡ None → (b ≡ false) × (rest ≡ None)
refuse_none true f rest is = absurd cc
refuse_none false f rest is = (refl, is)

pub refuse-true : (b : Bool) (f : Fault) (rest : Option Fault) → b ≡ true → refuse b f rest ≡ Some f
refuse-true b f rest is = ap (λ b. refuse b f rest) is

pub refuse-false : (b : Bool) (f : Fault) (rest : Option Fault) → b ≡ false → refuse b f rest ≡ rest
refuse-false b f rest is = ap (λ b. refuse b f rest) is

-- ---- numbers in bytes don't depend on what follows them

pub u32_at-append : (i : ℕ) (bytes rest : List ℕ) → i + 4 ≤ length bytes → u32_at (bytes ++ rest) i ≡ u32_at bytes i
u32_at-append i bytes rest there =
    ap (λ (xs : List ℕ). from_le_bytes w32 (take 4 xs)) (drop-append-le i bytes rest (omega arith))
    ∙ ap (from_le_bytes w32) (take-append-le 4 (drop i bytes) rest (omega (arith, length-drop i bytes)))

pub u64_at-append : (i : ℕ) (bytes rest : List ℕ) → i + 8 ≤ length bytes → u64_at (bytes ++ rest) i ≡ u64_at bytes i
u64_at-append i bytes rest there =
    ap (λ (xs : List ℕ). from_le_bytes w64 (take 8 xs)) (drop-append-le i bytes rest (omega arith))
    ∙ ap (from_le_bytes w64) (take-append-le 8 (drop i bytes) rest (omega (arith, length-drop i bytes)))

pub u32_at-behind : (i : ℕ) (front rest : List ℕ) → length front ≡ i → u32_at (front ++ rest) i ≡ u32_at rest 0
u32_at-behind i front rest long = ap (λ (xs : List ℕ). from_le_bytes w32 (take 4 xs)) (drop_at front rest i long)

pub size_field-append : (bytes rest : List ℕ) → 12 ≤ length bytes → size_field (bytes ++ rest) ≡ size_field bytes
size_field-append bytes rest there = u64_at-append 0 bytes rest (omega arith)

pub type_field-append : (bytes rest : List ℕ) → 12 ≤ length bytes → type_field (bytes ++ rest) ≡ type_field bytes
type_field-append bytes rest there = u32_at-append 8 bytes rest (omega arith)

pub head_fault-append : (bytes rest : List ℕ) → 12 ≤ length bytes → head_fault (bytes ++ rest) ≡ head_fault bytes
unfolding head_fault
head_fault-append bytes rest there = rw (size_field-append bytes rest there, type_field-append bytes rest there) refl

pub payload_field-append : (bytes rest : List ℕ) → 12 + size_field bytes ≤ length bytes → payload_field (bytes ++ rest) ≡ payload_field bytes
payload_field-append bytes rest there =
    ap (λ n. take n (drop 12 (bytes ++ rest))) (size_field-append bytes rest (omega arith))
    ∙ ap (take (size_field bytes)) (drop-append-le 12 bytes rest (omega arith))
    ∙ take-append-le (size_field bytes) (drop 12 bytes) rest (omega (arith, length-drop 12 bytes))

-- ---- markers

cut_short : (a : Bool) (size n : ℕ) (b : Bool) → n < size → (a && nat_eq size 12 && nat_le 12 n && b) ≡ false
cut_short a size n b short = grind (arith, nat_tests)

pub marks-cut : (mark kind size : ℕ) (rest : List ℕ) → length rest < size → marks mark kind size rest ≡ false
marks-cut mark kind size rest short = cut_short (nat_eq kind 2) size (length rest) (nat_eq (u32_at rest 0) mark) short

second_false : (a b c d : Bool) → b ≡ false → (a && b && c && d) ≡ false
second_false true b c d other = ap (λ b. b && c && d) other
second_false false b c d other = refl

pub marks-other_size : (mark kind size : ℕ) (rest : List ℕ) → nat_eq size 12 ≡ false → marks mark kind size rest ≡ false
marks-other_size mark kind size rest other = second_false (nat_eq kind 2) (nat_eq size 12) (nat_le 12 (length rest)) (nat_eq (u32_at rest 0) mark) other

-- what follows a whole payload does not matter for it
marks-long : (mark kind size : ℕ) (payload rest : List ℕ) → 12 ≤ length payload → marks mark kind size (payload ++ rest) ≡ marks mark kind size payload
marks-long mark kind size payload rest there =
    let more : nat_le 12 (length (payload ++ rest)) ≡ true = le-leb 12 (length (payload ++ rest)) (omega (arith, length-append payload rest)) in
    let all : nat_le 12 (length payload) ≡ true = le-leb 12 (length payload) there in
    ap (λ b. nat_eq kind 2 && nat_eq size 12 && b && nat_eq (u32_at (payload ++ rest) 0) mark) (more ∙ sym all)
    ∙ ap (λ n. nat_eq kind 2 && nat_eq size 12 && nat_le 12 (length payload) && nat_eq n mark) (u32_at-append 0 payload rest (omega arith))

by_size : (mark kind size : ℕ) (payload rest : List ℕ) → length payload ≡ size → (b : Bool) → nat_eq size 12 ≡ b
    → marks mark kind size (payload ++ rest) ≡ marks mark kind size payload
by_size mark kind size payload rest long true is = marks-long mark kind size payload rest (omega (arith, eqb-true size 12 is, long))
by_size mark kind size payload rest long false is = marks-other_size mark kind size (payload ++ rest) is ∙ sym (marks-other_size mark kind size payload is)

pub marks-append : (mark kind size : ℕ) (payload rest : List ℕ) → length payload ≡ size → marks mark kind size (payload ++ rest) ≡ marks mark kind size payload
marks-append mark kind size payload rest long = by_size mark kind size payload rest long (nat_eq size 12) refl

-- ---- the head

pub framing-short : (at : Position) (bytes : List ℕ) → length bytes < 12 → framing_fault at bytes ≡ Some Truncated
unfolding framing_fault
framing-short at bytes short = refuse-true (nat_lt (length bytes) 12) Truncated _ (lt-ltb (length bytes) 12 short)

-- the steps behind the head
abbrev pub behind_head : (head : Option Fault) (side : ℕ) (cut : Bool) → Option Fault
behind_head head n cut = or_else head (refuse (nat_le (2 ^ 32) n) TooManyBlocks (refuse cut Truncated None))

-- twelve bytes there, the head goes first
pub framing-long : (at : Position) (bytes : List ℕ) → 12 ≤ length bytes
    → framing_fault at bytes ≡ behind_head (head_fault bytes) (side_count at bytes) (nat_lt (length bytes) (12 + size_field bytes))
unfolding framing_fault
framing-long at bytes there = refuse-false (nat_lt (length bytes) 12) Truncated _ (le-ltb (length bytes) 12 there)

pub framing-head_fault : (at : Position) (head rest : List ℕ) (f : Fault) → length head ≡ 12 → head_fault head ≡ Some f → framing_fault at (head ++ rest) ≡ Some f
framing-head_fault at head rest f there is =
    let bytes = head ++ rest in
    framing-long at bytes (omega (arith, length-append head rest))
    ∙ ap (λ (o : Option Fault). behind_head o (side_count at bytes) (nat_lt (length bytes) (12 + size_field bytes))) (head_fault-append head rest (omega arith) ∙ is)

-- a head in order is of a type from 1 to 5, and of a payload of 2^27 bytes or fewer
low : (kind : ℕ) → not (nat_le 1 kind && nat_le kind 5) ≡ false → 1 ≤ kind
low kind is = grind (arith, nat_tests)

high : (kind : ℕ) → not (nat_le 1 kind && nat_le kind 5) ≡ false → kind ≤ 5
high kind is = grind (arith, nat_tests)

type_known : (kind : ℕ) → not (nat_le 1 kind && nat_le kind 5) ≡ false → (1 ≤ kind) × (kind ≤ 5)
type_known kind is = (low kind is, high kind is)

pub head-bounds : (head : List ℕ) → head_fault head ≡ None → (size_field head ≤ 2 ^ 27) × (1 ≤ type_field head) × (type_field head ≤ 5)
unfolding head_fault
head-bounds head good =
    let first = refuse_none (nat_le (2 ^ 31) (type_field head)) Compressed _ good in
    let second = refuse_none (nat_lt (2 ^ 27) (size_field head)) BlockTooLarge _ first.1 in
    let third = refuse_none (not (nat_le 1 (type_field head) && nat_le (type_field head) 5)) UnknownBlock None second.1 in
    let known = type_known (type_field head) third.0 in
    (ltb-false _ _ second.0, known.0, known.1)

-- ---- what is read behind a head in order

room : (n k : ℕ) → n ≡ 12 + k → nat_le 24 n ≡ nat_le 12 k
room n k is = grind (arith, nat_tests)

pub is_marker-marks : (mark kind size : ℕ) (head rest : List ℕ) → IsHead kind size head → is_marker mark (head ++ rest) ≡ marks mark kind size rest
is_marker-marks mark kind size head rest h =
    let bytes = head ++ rest in
    let kinds : type_field bytes ≡ kind = type_field-append head rest (omega (arith, h.there)) ∙ h.kind_is in
    let sizes : size_field bytes ≡ size = size_field-append head rest (omega (arith, h.there)) ∙ h.size_is in
    let long : nat_le 24 (length bytes) ≡ nat_le 12 (length rest) = room (length bytes) (length rest) (omega (arith, length-append head rest, h.there)) in
    ap (λ k. nat_eq k 2 && nat_eq (size_field bytes) 12 && nat_le 24 (length bytes) && nat_eq (u32_at bytes 12) mark) kinds
    ∙ ap (λ n. nat_eq kind 2 && nat_eq n 12 && nat_le 24 (length bytes) && nat_eq (u32_at bytes 12) mark) sizes
    ∙ ap (λ b. nat_eq kind 2 && nat_eq size 12 && b && nat_eq (u32_at bytes 12) mark) long
    ∙ ap (λ n. nat_eq kind 2 && nat_eq size 12 && nat_le 12 (length rest) && nat_eq n mark) (u32_at-behind 12 head rest h.there)

pub side_count-side : (at : Position) (kind size : ℕ) (head rest : List ℕ) → IsHead kind size head → side_count at (head ++ rest) ≡ side at (marks 1 kind size rest)
side_count-side at kind size head rest h =
    ap (λ b. cond (at.in_section || b) at.inside at.outside) (is_marker-marks 1 kind size head rest h)

same_room : (all rest size : ℕ) → all ≡ 12 + rest → nat_lt all (12 + size) ≡ nat_lt rest size
same_room all rest size h = grind (arith, nat_tests)

pub framing-payload : (at : Position) (kind size : ℕ) (head rest : List ℕ) → IsHead kind size head
    → framing_fault at (head ++ rest) ≡ behind_head None (side at (marks 1 kind size rest)) (nat_lt (length rest) size)
framing-payload at kind size head rest h =
    let bytes = head ++ rest in
    let sizes : size_field bytes ≡ size = size_field-append head rest (omega (arith, h.there)) ∙ h.size_is in
    framing-long at bytes (omega (arith, length-append head rest, h.there))
    ∙ ap (λ (o : Option Fault). behind_head o (side_count at bytes) (nat_lt (length bytes) (12 + size_field bytes))) (head_fault-append head rest (omega (arith, h.there)) ∙ h.good)
    ∙ ap (λ n. behind_head None n (nat_lt (length bytes) (12 + size_field bytes))) (side_count-side at kind size head rest h)
    ∙ ap (λ n. behind_head None (side at (marks 1 kind size rest)) (nat_lt (length bytes) (12 + n))) sizes
    ∙ ap (behind_head None (side at (marks 1 kind size rest))) (same_room (length bytes) (length rest) size (omega (arith, length-append head rest, h.there)))

-- the position behind the block
pub next_position-past : (at : Position) (kind size : ℕ) (head rest : List ℕ) → IsHead kind size head
    → next_position at (head ++ rest) ≡ past at size (marks 1 kind size rest) (marks 2 kind size rest)
next_position-past at kind size head rest h =
    let bytes = head ++ rest in
    let sizes : size_field bytes ≡ size = size_field-append head rest (omega (arith, h.there)) ∙ h.size_is in
    ap (λ n. past at n (is_marker 1 bytes) (is_marker 2 bytes)) sizes
    ∙ ap (λ b. past at size b (is_marker 2 bytes)) (is_marker-marks 1 kind size head rest h)
    ∙ ap (past at size (marks 1 kind size rest)) (is_marker-marks 2 kind size head rest h)

-- ---- a block by itself

marker_long : (mark : ℕ) (bytes rest : List ℕ) → 24 ≤ length bytes → is_marker mark (bytes ++ rest) ≡ is_marker mark bytes
marker_long mark bytes rest there =
    let more : nat_le 24 (length (bytes ++ rest)) ≡ true = le-leb 24 (length (bytes ++ rest)) (omega (arith, length-append bytes rest)) in
    let all : nat_le 24 (length bytes) ≡ true = le-leb 24 (length bytes) there in
    ap (λ k. nat_eq k 2 && nat_eq (size_field (bytes ++ rest)) 12 && nat_le 24 (length (bytes ++ rest)) && nat_eq (u32_at (bytes ++ rest) 12) mark) (type_field-append bytes rest (omega arith))
    ∙ ap (λ n. nat_eq (type_field bytes) 2 && nat_eq n 12 && nat_le 24 (length (bytes ++ rest)) && nat_eq (u32_at (bytes ++ rest) 12) mark) (size_field-append bytes rest (omega arith))
    ∙ ap (λ b. nat_eq (type_field bytes) 2 && nat_eq (size_field bytes) 12 && b && nat_eq (u32_at (bytes ++ rest) 12) mark) (more ∙ sym all)
    ∙ ap (λ n. nat_eq (type_field bytes) 2 && nat_eq (size_field bytes) 12 && nat_le 24 (length bytes) && nat_eq n mark) (u32_at-append 12 bytes rest (omega arith))

no_marker : (mark : ℕ) (bytes : List ℕ) → nat_eq (size_field bytes) 12 ≡ false → is_marker mark bytes ≡ false
no_marker mark bytes other = second_false (nat_eq (type_field bytes) 2) (nat_eq (size_field bytes) 12) (nat_le 24 (length bytes)) (nat_eq (u32_at bytes 12) mark) other

by_size_field : (mark : ℕ) (bytes rest : List ℕ) → 12 + size_field bytes ≤ length bytes → (b : Bool) → nat_eq (size_field bytes) 12 ≡ b → is_marker mark (bytes ++ rest) ≡ is_marker mark bytes
by_size_field mark bytes rest there true is = marker_long mark bytes rest (omega (arith, eqb-true (size_field bytes) 12 is, there))
by_size_field mark bytes rest there false is =
    no_marker mark (bytes ++ rest) (ap (λ n. nat_eq n 12) (size_field-append bytes rest (omega arith)) ∙ is) ∙ sym (no_marker mark bytes is)

pub is_marker-append : (mark : ℕ) (bytes rest : List ℕ) → 12 + size_field bytes ≤ length bytes → is_marker mark (bytes ++ rest) ≡ is_marker mark bytes
is_marker-append mark bytes rest there = by_size_field mark bytes rest there (nat_eq (size_field bytes) 12) refl

pub side_count-append : (at : Position) (bytes rest : List ℕ) → 12 + size_field bytes ≤ length bytes → side_count at (bytes ++ rest) ≡ side_count at bytes
side_count-append at bytes rest there = ap (λ b. cond (at.in_section || b) at.inside at.outside) (is_marker-append 1 bytes rest there)

pub next_position-append : (at : Position) (bytes rest : List ℕ) → 12 + size_field bytes ≤ length bytes → next_position at (bytes ++ rest) ≡ next_position at bytes
next_position-append at bytes rest there =
    ap (λ n. past at n (is_marker 1 (bytes ++ rest)) (is_marker 2 (bytes ++ rest))) (size_field-append bytes rest (omega arith))
    ∙ ap (λ b. past at (size_field bytes) b (is_marker 2 (bytes ++ rest))) (is_marker-append 1 bytes rest there)
    ∙ ap (past at (size_field bytes) (is_marker 1 bytes)) (is_marker-append 2 bytes rest there)
