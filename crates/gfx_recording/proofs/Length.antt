-- A text that parses to a script is no longer than one may be.
use Rattle.std.proofs.Common.{◌≡◌, ℕ, suc, ◌+◌, ◌≤◌, ◌==◌, ◌&&◌, ◌||◌, not, nat_lt, min, Bool, true, false, cond, List, [], ◌∷◌, length, Option, Some, None, refl, arith}
use Rattle.std.specs.Prelude.{if◌then◌else◌, nat_le}
use Rattle.std.specs.List.{list_all, onto_first}
use Rattle.std.proofs.lemmas.Bool.Decides.{nat_tests}
use Rattle.gfx_model.specs.Limits.{max_script, max_line, max_lines, max_phases}
use Rattle.gfx_script_model.specs.Statements.{lines_of, tokens_of}
use Rattle.gfx_script_model.specs.Scripts.{Kind, Reading, Part, reads, refuses, bad_byte, line_too_long, too_many, early_fault, is_phase, is_printable, IsOutcome, IsLateOutcome, Parses, ParsesFrom, parses, through_line, at_first}

-- where the last line ends
abbrev reached : ℕ → ℕ → List (List ℕ) → ℕ
reached total before [] = before
reached total before (l ∷ ls) = reached total (through_line total before l) ls

-- the bytes of lines, each with a line feed
abbrev all : List (List ℕ) → ℕ
all [] = 0
all (l ∷ ls) = length l + 1 + all ls

one_more : (c n : ℕ) (ls : List (List ℕ)) → n ≤ all ls → suc n ≤ all (onto_first c ls)
one_more c n [] h = omega (arith, h)
one_more c n (l ∷ ls) h = omega (arith, h)

covers : (text : List ℕ) → length text ≤ all (lines_of text)
covers [] = omega arith
covers (c ∷ cs) = by (c == 10) (covers cs)
  where
    by : (b : Bool) → length cs ≤ all (lines_of cs) → suc (length cs) ≤ all (cond b ([] ∷ lines_of cs) (onto_first c (lines_of cs)))
    by true h = omega (arith, h)
    by false h = one_more c (length cs) (lines_of cs) h

reached_is : (total before : ℕ) (ls : List (List ℕ)) → before ≤ total → reached total before ls ≡ min total (before + all ls)
reached_is total before [] h = omega (arith, h)
reached_is total before (l ∷ ls) h = omega (arith, reached_is total (through_line total before l) ls (omega arith))

-- without an early fault the text through the line is not too long
none_low : (printable long number through begins full : Bool)
    → (if not printable then Some bad_byte else (if long then Some line_too_long else (if number || through || begins && full then Some too_many else None))) ≡ None → through ≡ false
none_low printable long number false begins full e = refl
none_low false long number true begins full e = absurd cc
none_low true true number true begins full e = absurd cc
none_low true false true true begins full e = absurd cc
none_low true false false true begins full e = absurd cc

low : (through : ℕ) → nat_lt max_script through ≡ false → through ≤ max_script
low through h = grind (arith, nat_tests)

through_low : (number through : ℕ) (r : Reading) (l : List ℕ) (next : Reading) → IsOutcome number through r l (reads next) → through ≤ max_script
through_low number through r l next is = by (early_fault number through r l) refl is
  where
    by : (o : Option Kind) → early_fault number through r l ≡ o → IsLateOutcome number r l o (reads next) → through ≤ max_script
    by (Some k) e h = absurd cc
    by None e h = low through
        (none_low (list_all is_printable l) (nat_lt max_line (length l)) (nat_lt max_lines number) (nat_lt max_script through) (is_phase (tokens_of l)) (nat_le max_phases (length r.phases)) e)

small : (total number before : ℕ) (r : Reading) (ls : List (List ℕ)) (m : ℕ) (phases : List (List Part)) → before ≤ max_script
    → ParsesFrom total number before r ls (parses m phases) → reached total before ls ≤ max_script
small total number before r [] m phases h is = h
small total number before r (l ∷ ls) m phases h (reads next, is, more) =
    small total (number + 1) (through_line total before l) next ls m phases (through_low number (through_line total before l) r l next is) more
small total number before r (l ∷ ls) m phases h (refuses kind, is, e) = absurd cc

pub parses_small : (text : List ℕ) (m : ℕ) (phases : List (List Part)) → Parses text (parses m phases) → length text ≤ max_script
parses_small text m phases h =
    omega (arith, small (length text) 1 0 at_first (lines_of text) m phases (omega arith) h, reached_is (length text) 0 (lines_of text) (omega arith), covers text)
