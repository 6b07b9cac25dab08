-- Numbers that are read digit by digit.
use Rattle.std.proofs.Common.{◌≡◌, ℕ, ◌+◌, ◌-◌, ◌*◌, ◌^◌, ◌<◌, ◌≤◌, nat_lt, nat_le, ◌&&◌, Bool, true, false, cond, List, [], ◌∷◌, length, get_or, drop, Option, Some, None, refl, sym, ap, ◌∙◌, arith}
use Rattle.std.specs.Str.{all_ascii_digits}
use Rattle.std.specs.Str.Parse.{digits_value, digits_value_after}
use Rattle.std.specs.Char.{digit_value}
use Rattle.std.proofs.lemmas.Bool.{cond-true, cond-false, lt-ltb, le-ltb, ltb-true, ltb-false, and_left, and_right}
use Rattle.std.proofs.lemmas.List.{at_drop_more, at_drop_all}
use Rattle.std.proofs.lemmas.Bool.Decides.{nat_tests}
use Rattle.gfx_grammar.specs.Reading.{◌>>=◌}
use Rattle.gfx_text_grammar.specs.Words.{is_plain, is_number_text, number_in}
use Rattle.gfx_text.specs.Digits.{with_digit}

-- the number with these digits behind it
abbrev pub number_from : ℕ → List ℕ → Option ℕ
number_from n [] = Some n
number_from n (c ∷ cs) = with_digit n c >>= λ k. number_from k cs

pub digits_break : (word : List ℕ) (i n digit : ℕ) → i < length word → digit ≡ get_or word i 0 → with_digit n digit ≡ None
    → number_from n (drop i word) ≡ None
digits_break word i n digit there is none =
    at_drop_more (number_from n) word i 0 there
    ∙ ap (λ (o : Option ℕ). o >>= λ m. number_from m (drop (i + 1) word)) (ap (with_digit n) (sym is) ∙ none)

pub digits_end : (word : List ℕ) (i n : ℕ) → length word ≤ i → number_from n (drop i word) ≡ Some n
digits_end word i n all = at_drop_all (number_from n) word i all

-- digits behind a number make it no less
no_less : (n : ℕ) (ds : List ℕ) → n ≤ digits_value_after 10 n ds
no_less n [] = omega arith
no_less n (c ∷ cs) = let more = no_less (n * 10 + digit_value c) cs in omega (arith, more)

digit_is : (c : ℕ) → (nat_le 48 c && nat_le c 57) ≡ true → digit_value c ≡ c - 48
digit_is c h = grind (arith, nat_tests, h)

-- the value of digits behind a number, where all are digits and it is below 2^64
abbrev value_from : ℕ → List ℕ → Option ℕ
value_from n ds = cond (all_ascii_digits ds && nat_lt (digits_value_after 10 n ds) (2 ^ 64)) (Some (digits_value_after 10 n ds)) None

from_is : (n : ℕ) (ds : List ℕ) → n < 2 ^ 64 → number_from n ds ≡ value_from n ds
from_is n [] small = sym (cond-true (nat_lt n (2 ^ 64)) (Some n) None (lt-ltb n (2 ^ 64) small))
from_is n (c ∷ cs) small = by (λ k below. from_is k cs below) (nat_le 48 c && nat_le c 57) refl (nat_lt (n * 10 + (c - 48)) (2 ^ 64)) refl
  where
    large : n * 10 + (c - 48) ≡ n * 10 + digit_value c → 2 ^ 64 ≤ n * 10 + (c - 48)
        → nat_lt (digits_value_after 10 (n * 10 + digit_value c) cs) (2 ^ 64) ≡ false
    large same high = le-ltb _ _ (let more = no_less (n * 10 + digit_value c) cs in omega (arith, more))

    by : ((k : ℕ) → k < 2 ^ 64 → number_from k cs ≡ value_from k cs) → (d : Bool) → (nat_le 48 c && nat_le c 57) ≡ d → (b : Bool) → nat_lt (n * 10 + (c - 48)) (2 ^ 64) ≡ b
        → (cond (d && b) (Some (n * 10 + (c - 48))) None >>= λ k. number_from k cs)
        ≡ cond ((d && all_ascii_digits cs) && nat_lt (digits_value_after 10 (n * 10 + digit_value c) cs) (2 ^ 64))
        (Some (digits_value_after 10 (n * 10 + digit_value c) cs)) None
    by more false e b f = refl
    by more true e false f =
        let same : n * 10 + (c - 48) ≡ n * 10 + digit_value c = ap (λ k. n * 10 + k) (sym (digit_is c e)) in
        sym (cond-false _ _ None (and_right (all_ascii_digits cs) _ (large same (ltb-false _ _ f))))
    by more true e true f =
        more (n * 10 + (c - 48)) (ltb-true _ _ f)
        ∙ ap (λ k. value_from (n * 10 + k) cs) (sym (digit_is c e))

-- all digits of a plain word, one after the other
pub number_is : (word : List ℕ) → is_plain word ≡ true → number_in (2 ^ 64) word ≡ number_from 0 word
unfolding number_in is_number_text
number_is word plain =
    ap (λ b. cond ((all_ascii_digits word && b) && nat_lt (digits_value 10 word) (2 ^ 64)) (Some (digits_value 10 word)) None) plain
    ∙ by (all_ascii_digits word)
    ∙ sym (from_is 0 word (omega arith))
  where
    by : (b : Bool) → cond ((b && true) && nat_lt (digits_value 10 word) (2 ^ 64)) (Some (digits_value 10 word)) None
        ≡ cond (b && nat_lt (digits_value 10 word) (2 ^ 64)) (Some (digits_value 10 word)) None
    by true = refl
    by false = refl

pub number_not : (word : List ℕ) → is_plain word ≡ false → number_in (2 ^ 64) word ≡ None
unfolding number_in is_number_text
number_not word other = cond-false _ _ None (and_left _ _ (and_right (all_ascii_digits word) (is_plain word) other))

-- a number below a lower limit
pub short_is : (word : List ℕ) → number_in (2 ^ 32) word ≡ (number_in (2 ^ 64) word >>= λ n. cond (nat_lt n (2 ^ 32)) (Some n) None)
unfolding number_in
short_is word = by (is_number_text word) (nat_lt (digits_value 10 word) (2 ^ 64)) refl
  where
    by : (b t : Bool) → nat_lt (digits_value 10 word) (2 ^ 64) ≡ t → cond (b && nat_lt (digits_value 10 word) (2 ^ 32)) (Some (digits_value 10 word)) None
        ≡ (cond (b && t) (Some (digits_value 10 word)) None >>= λ n. cond (nat_lt n (2 ^ 32)) (Some n) None)
    by false t e = refl
    by true true e = refl
    by true false e =
        let high : 2 ^ 64 ≤ digits_value 10 word = ltb-false (digits_value 10 word) (2 ^ 64) e in
        let much : 2 ^ 32 ≤ digits_value 10 word = omega (arith, high) in
        cond-false (nat_lt (digits_value 10 word) (2 ^ 32)) (Some (digits_value 10 word)) None (le-ltb (digits_value 10 word) (2 ^ 32) much)

pub short_some : (word : List ℕ) (n : ℕ) → number_in (2 ^ 64) word ≡ Some n → n < 2 ^ 32 → number_in (2 ^ 32) word ≡ Some n
short_some word n is small =
    short_is word ∙ ap (λ (o : Option ℕ). o >>= λ n. cond (nat_lt n (2 ^ 32)) (Some n) None) is ∙ cond-true _ (Some n) None (lt-ltb n (2 ^ 32) small)

pub short_large : (word : List ℕ) (n : ℕ) → number_in (2 ^ 64) word ≡ Some n → 2 ^ 32 ≤ n → number_in (2 ^ 32) word ≡ None
short_large word n is large =
    short_is word ∙ ap (λ (o : Option ℕ). o >>= λ n. cond (nat_lt n (2 ^ 32)) (Some n) None) is ∙ cond-false _ (Some n) None (le-ltb n (2 ^ 32) large)

pub short_none : (word : List ℕ) → number_in (2 ^ 64) word ≡ None → number_in (2 ^ 32) word ≡ None
short_none word none = short_is word ∙ ap (λ (o : Option ℕ). o >>= λ n. cond (nat_lt n (2 ^ 32)) (Some n) None) none
