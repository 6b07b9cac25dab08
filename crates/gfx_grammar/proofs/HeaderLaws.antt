-- What the header decides, whatever follows it.
use Rattle.std.proofs.Common.{◌≡◌, ℕ, zero, suc, ◌+◌, ◌*◌, ◌<◌, ◌≤◌, Bool, false, not, ◌&&◌, ◌||◌, ◌⊎◌, nat_lt, nat_eq, nat_le, List, ◌++◌, length, take, drop, Option, Some, None, refl, sym, ap, ◌∙◌, arith, inl, inr, length-append}
use Rattle.std.specs.Int.{w32, from_le_bytes}
use Rattle.std.proofs.lemmas.Bool.{cases_lt, le-ltb, lt-ltb, ltb-false}
use Rattle.std.proofs.lemmas.Bool.Decides.{nat_tests}
use Rattle.std.proofs.lemmas.List.{drop_at, drop-drop}
use Rattle.gfx_types.specs.declared.names.Fault.{Fault}
use Rattle.gfx_types.specs.declared.names.Fault.TheVariants.{BadMagic, BadVersion, BadOption, Compressed, Truncated}
use Rattle.gfx_model.specs.Blocks.{u32_at, refuse, or_else, options_fault, option_count, header_length, minor_of, header_fault, bad, first_position, Position}
use Rattle.gfx_grammar.specs.Splitting.{only_end, after_header, blocks_from, blocks_of}
use Rattle.gfx_grammar.specs.Framing.{start_fault, IsHeader}
use Rattle.gfx_grammar.proofs.FramingLaws.{refuse_none, refuse-true, refuse-false, u32_at-append}

-- ---- the steps by what they read

abbrev bad_magic : List ℕ → Bool
bad_magic bytes = not (nat_eq (u32_at bytes 0) 0x52584647)

abbrev bad_version : List ℕ → Bool
bad_version bytes = not (nat_eq (u32_at bytes 4) 1000 && (nat_eq (minor_of bytes) 1 || nat_eq (minor_of bytes) 2))

-- the steps behind the start
abbrev behind_start : (start : Option Fault) (cut : Bool) (options : Option Fault) → Option Fault
behind_start start cut options = or_else start (refuse cut Truncated options)

pub header_fault-short : (bytes : List ℕ) → length bytes < 16 → header_fault bytes ≡ Some Truncated
unfolding header_fault
header_fault-short bytes short = refuse-true (nat_lt (length bytes) 16) Truncated _ (lt-ltb (length bytes) 16 short)

header-long : (bytes : List ℕ) → 16 ≤ length bytes
    → header_fault bytes ≡ behind_start (start_fault bytes) (nat_lt (length bytes) (header_length bytes)) (options_fault bytes 16 0 (option_count bytes))
unfolding header_fault
header-long bytes there = refuse-false (nat_lt (length bytes) 16) Truncated _ (le-ltb (length bytes) 16 there)

start_none : (o : Option Fault) (cut : Bool) (options : Option Fault) → behind_start o cut options ≡ None → (o ≡ None) × (refuse cut Truncated options ≡ None)
start_none (Some f) cut options is = absurd cc
start_none None cut options is = (refl, is)

one_or_two : (a : Bool) (m : ℕ) → not (a && (nat_eq m 1 || nat_eq m 2)) ≡ false → (m ≡ 1) ⊎ (m ≡ 2)
one_or_two a m is = grind (arith, nat_tests)

same_cut : (all rest n : ℕ) → all ≡ 16 + rest → nat_lt all (16 + n) ≡ nat_lt rest n
same_cut all rest n h = grind (arith, nat_tests)

omega_room : (at n all : ℕ) → at + 8 * suc n ≤ all → at + 8 + 8 * n ≤ all
omega_room at n all there = omega arith

abbrev position_after : ℕ → Position
position_after n = record { number = 1; offset = n; in_section = false; inside = 0; outside = 0 }

-- ---- the start

pub minor_of-append : (bytes rest : List ℕ) → 16 ≤ length bytes → minor_of (bytes ++ rest) ≡ minor_of bytes
minor_of-append bytes rest there = u32_at-append 8 bytes rest (omega arith)

pub option_count-append : (bytes rest : List ℕ) → 16 ≤ length bytes → option_count (bytes ++ rest) ≡ option_count bytes
option_count-append bytes rest there = u32_at-append 12 bytes rest (omega arith)

pub header_length-append : (bytes rest : List ℕ) → 16 ≤ length bytes → header_length (bytes ++ rest) ≡ header_length bytes
header_length-append bytes rest there = ap (λ n. 16 + 8 * n) (option_count-append bytes rest there)

pub start_fault-append : (bytes rest : List ℕ) → 16 ≤ length bytes → start_fault (bytes ++ rest) ≡ start_fault bytes
unfolding start_fault
start_fault-append bytes rest there =
    rw (u32_at-append 0 bytes rest (omega arith), u32_at-append 4 bytes rest (omega arith), minor_of-append bytes rest there, option_count-append bytes rest there) refl

pub header_fault-start : (start rest : List ℕ) (f : Fault) → length start ≡ 16 → start_fault start ≡ Some f → header_fault (start ++ rest) ≡ Some f
header_fault-start start rest f there is =
    let bytes = start ++ rest in
    header-long bytes (omega (arith, length-append start rest))
    ∙ ap (λ (o : Option Fault). behind_start o (nat_lt (length bytes) (header_length bytes)) (options_fault bytes 16 0 (option_count bytes)))
    (start_fault-append start rest (omega arith) ∙ is)

-- a start in order is of minor version 1 or 2, and has 16 options or fewer
pub start_minor : (start : List ℕ) → start_fault start ≡ None → (minor_of start ≡ 1) ⊎ (minor_of start ≡ 2)
unfolding start_fault
start_minor start is =
    let magic = refuse_none (bad_magic start) BadMagic _ is in
    let version = refuse_none (bad_version start) BadVersion _ magic.1 in
    one_or_two (nat_eq (u32_at start 4) 1000) (minor_of start) version.0

pub start_options : (start : List ℕ) → start_fault start ≡ None → option_count start ≤ 16
unfolding start_fault
start_options start is =
    let magic = refuse_none (bad_magic start) BadMagic _ is in
    let version = refuse_none (bad_version start) BadVersion _ magic.1 in
    let count = refuse_none (nat_lt 16 (option_count start)) BadOption None version.1 in
    ltb-false 16 (option_count start) count.0

-- ---- the options

-- one option, by its key and its value, and what follows it
abbrev option_step : (key value last : ℕ) → Option Fault → Option Fault
option_step key value last rest = refuse (nat_le key last) BadOption (refuse (nat_eq key 1 && not (nat_eq value 0)) Compressed rest)

step_same : (n at i last : ℕ) (bytes other : List ℕ) → u32_at bytes i ≡ u32_at other at → u32_at bytes (i + 4) ≡ u32_at other (at + 4)
    → options_fault bytes (i + 8) (u32_at bytes i) n ≡ options_fault other (at + 8) (u32_at bytes i) n
    → options_fault bytes i last (suc n) ≡ options_fault other at last (suc n)
step_same n at i last bytes other key value rest =
    ap (option_step (u32_at bytes i) (u32_at bytes (i + 4)) last) (rest ∙ ap (λ k. options_fault other (at + 8) k n) key)
    ∙ ap (λ k. option_step k (u32_at bytes (i + 4)) last (options_fault other (at + 8) (u32_at other at) n)) key
    ∙ ap (λ v. option_step (u32_at other at) v last (options_fault other (at + 8) (u32_at other at) n)) value

u32_at-drop : (k at i : ℕ) (bytes : List ℕ) → i ≡ k + at → u32_at bytes i ≡ u32_at (drop k bytes) at
u32_at-drop k at i bytes is = ap (u32_at bytes) is ∙ ap (λ (xs : List ℕ). from_le_bytes w32 (take 4 xs)) (sym (drop-drop at k bytes))

-- a place past the prefix is a place in what follows it
options_fault-behind : (n k at i last : ℕ) (bytes : List ℕ) → i ≡ k + at → options_fault bytes i last n ≡ options_fault (drop k bytes) at last n
options_fault-behind zero k at i last bytes is = refl
options_fault-behind (suc n) k at i last bytes is =
    step_same n at i last bytes (drop k bytes) (u32_at-drop k at i bytes is) (u32_at-drop k (at + 4) (i + 4) bytes (omega (arith, is)))
    (options_fault-behind n k (at + 8) (i + 8) (u32_at bytes i) bytes (omega (arith, is)))

pub options_fault-append : (n at last : ℕ) (bytes rest : List ℕ) → at + 8 * n ≤ length bytes → options_fault (bytes ++ rest) at last n ≡ options_fault bytes at last n
options_fault-append zero at last bytes rest there = refl
options_fault-append (suc n) at last bytes rest there =
    let next = omega_room at n (length bytes) there in
    step_same n at at last (bytes ++ rest) bytes (u32_at-append at bytes rest (omega (arith, next))) (u32_at-append (at + 4) bytes rest (omega (arith, next)))
    (options_fault-append n (at + 8) (u32_at (bytes ++ rest) at) bytes rest next)

-- ---- behind a start in order

pub header_fault-options : (start rest : List ℕ) → length start ≡ 16 → start_fault start ≡ None
    → header_fault (start ++ rest) ≡ refuse (nat_lt (length rest) (8 * option_count start)) Truncated (options_fault rest 0 0 (option_count start))
header_fault-options start rest there good =
    let bytes = start ++ rest in
    let count : option_count bytes ≡ option_count start = option_count-append start rest (omega arith) in
    header-long bytes (omega (arith, length-append start rest))
    ∙ ap (λ (o : Option Fault). behind_start o (nat_lt (length bytes) (header_length bytes)) (options_fault bytes 16 0 (option_count bytes))) (start_fault-append start rest (omega arith) ∙ good)
    ∙ ap (λ n. refuse (nat_lt (length bytes) (16 + 8 * n)) Truncated (options_fault bytes 16 0 n)) count
    ∙ ap (λ b. refuse b Truncated (options_fault bytes 16 0 (option_count start))) (same_cut (length bytes) (length rest) (8 * option_count start) (omega (arith, length-append start rest)))
    ∙ ap (λ o. refuse (nat_lt (length rest) (8 * option_count start)) Truncated o) (options_fault-behind (option_count start) 16 0 16 0 bytes refl)
    ∙ ap (λ (xs : List ℕ). refuse (nat_lt (length rest) (8 * option_count start)) Truncated (options_fault xs 0 0 (option_count start))) (drop_at start rest 16 there)

-- ---- a whole header

pub header-of_parts : (start options : List ℕ) → length start ≡ 16 → start_fault start ≡ None → length options ≡ 8 * option_count start
    → options_fault options 0 0 (option_count start) ≡ None → IsHeader (start ++ options)
header-of_parts start options there good long none =
    let bytes = start ++ options in
    let count : option_count bytes ≡ option_count start = option_count-append start options (omega arith) in
    record {
      there = omega (arith, length-append start options);
      start = start_fault-append start options (omega arith) ∙ good;
      long = omega (arith, length-append start options, count, long);
      options = ap (options_fault bytes 16 0) count ∙ options_fault-behind (option_count start) 16 0 16 0 bytes refl
          ∙ ap (λ (xs : List ℕ). options_fault xs 0 0 (option_count start)) (drop_at start options 16 there) ∙ none;
    }

pub header_fault-append : (bytes rest : List ℕ) → IsHeader bytes → header_fault (bytes ++ rest) ≡ None
header_fault-append bytes rest h =
    let all = bytes ++ rest in
    let count : option_count all ≡ option_count bytes = option_count-append bytes rest h.there in
    header-long all (omega (arith, length-append bytes rest, h.there))
    ∙ ap (λ (o : Option Fault). behind_start o (nat_lt (length all) (header_length all)) (options_fault all 16 0 (option_count all))) (start_fault-append bytes rest h.there ∙ h.start)
    ∙ refuse-false (nat_lt (length all) (header_length all)) Truncated _ (le-ltb (length all) (header_length all) (omega (arith, length-append bytes rest, header_length-append bytes rest h.there, h.long)))
    ∙ ap (options_fault all 16 0) count
    ∙ options_fault-append (option_count bytes) 16 0 bytes rest (omega (arith, h.long))
    ∙ h.options

pub header_good : (bytes : List ℕ) → header_fault bytes ≡ None → (16 ≤ length bytes) × (start_fault bytes ≡ None) × (header_length bytes ≤ length bytes) × (options_fault bytes 16 0 (option_count bytes) ≡ None)
header_good bytes good =
    elim (cases_lt (length bytes) 16) [
      | inl short ↦ absurd (let fault = header_fault-short bytes short in cc)
      | inr there ↦
          let start = start_none (start_fault bytes) (nat_lt (length bytes) (header_length bytes)) (options_fault bytes 16 0 (option_count bytes)) (sym (header-long bytes there) ∙ good) in
          let cut = refuse_none (nat_lt (length bytes) (header_length bytes)) Truncated _ start.1 in
          (there, start.0, ltb-false _ _ cut.0, cut.1)
    ]

-- ---- the blocks behind it

pub blocks_of-good : (bytes : List ℕ) → header_fault bytes ≡ None → blocks_of bytes ≡ blocks_from (minor_of bytes) (first_position bytes) (drop (header_length bytes) bytes)
unfolding blocks_of
blocks_of-good bytes good = ap (λ (f : Option Fault). after_header f bytes) good

pub blocks_of-bad : (bytes : List ℕ) (f : Fault) → header_fault bytes ≡ Some f → blocks_of bytes ≡ only_end (bad f 0 0)
unfolding blocks_of
blocks_of-bad bytes f is = ap (λ (f : Option Fault). after_header f bytes) is

pub blocks_of-header : (bytes rest : List ℕ) → IsHeader bytes → blocks_of (bytes ++ rest) ≡ blocks_from (minor_of bytes) (first_position bytes) rest
blocks_of-header bytes rest h =
    let all = bytes ++ rest in
    let long : header_length all ≡ header_length bytes = header_length-append bytes rest h.there in
    blocks_of-good all (header_fault-append bytes rest h)
    ∙ ap (λ m. blocks_from m (first_position all) (drop (header_length all) all)) (minor_of-append bytes rest h.there)
    ∙ ap (λ n. blocks_from (minor_of bytes) (position_after n) (drop n all)) long
    ∙ ap (blocks_from (minor_of bytes) (first_position bytes)) (drop_at bytes rest (header_length bytes) h.long)
