-- Numbers that are read and written in decimal digits.
use Rattle.std.proofs.Common.{◌≡◌, ◌≢◌, ℕ, zero, suc, ◌<◌, ◌≤◌, ◌^◌, ◌==◌, ◌&&◌, Bool, true, false, cond, List, [], ◌∷◌, length, get_or, Result, Ok, Err, refl, sym, ap, subst, ◌∙◌, arith}
use Rattle.std.specs.Prelude.{decimal, nat_le}
use Rattle.std.specs.Str.Parse.{ParsesUnsigned, AllDigits, digits_value}
use Rattle.std.proofs.lemmas.Bool.Decides.{nat_tests}
use Rattle.std.proofs.lemmas.Str.Parse.{IsNumeralModel, numerals_by_value, tells_digits, parse_plain, digit_at}
use Rattle.std.proofs.lemmas.Fmt.{parse-decimal, decimal-digits_value, decimal_nonempty, decimal_digit, first_decimal, digits_decimal}
use Rattle.gfx_words.specs.Digits.{is_plain}

own : IsNumeralModel (AllDigits 10) (digits_value 10)
own = numerals_by_value (AllDigits 10) tells_digits

no_plus : (text : List ℕ) → is_plain text ≡ true → get_or text 0 0 ≢ 43
unfolding is_plain
no_plus text plain is = by (get_or text 0 0 == 48) refl plain
  where
    by : (t : Bool) → (get_or text 0 0 == 48) ≡ t → cond t (length text == 1) (nat_le 49 (get_or text 0 0) && nat_le (get_or text 0 0) 57) ≡ true → ⊥
    by true e p = grind (arith, nat_tests, e, is)
    by false e p = grind (arith, nat_tests, p, is)

no_zero : (text : List ℕ) → is_plain text ≡ true → get_or text 0 0 ≡ 48 → length text ≡ 1
unfolding is_plain
no_zero text plain is = by (get_or text 0 0 == 48) refl plain
  where
    by : (t : Bool) → (get_or text 0 0 == 48) ≡ t → cond t (length text == 1) (nat_le 49 (get_or text 0 0) && nat_le (get_or text 0 0) 57) ≡ true → length text ≡ 1
    by true e p = grind (arith, nat_tests, p)
    by false e p = absurd (let no : ⊥ = grind (arith, nat_tests, e, is) in no)

plain_by : (text : List ℕ) → (get_or text 0 0 ≡ 48 → length text ≡ 1) → 48 ≤ get_or text 0 0 → get_or text 0 0 ≤ 57 → is_plain text ≡ true
unfolding is_plain
plain_by text one low high = by (get_or text 0 0 == 48) refl
  where
    by : (t : Bool) → (get_or text 0 0 == 48) ≡ t → cond t (length text == 1) (nat_le 49 (get_or text 0 0) && nat_le (get_or text 0 0) 57) ≡ true
    by true e =
        let zero_first : get_or text 0 0 ≡ 48 = grind (arith, nat_tests, e) in
        let only : length text ≡ 1 = one zero_first in
        grind (arith, nat_tests, only)
    by false e = grind (arith, nat_tests, e, low, high)

pub number_read : (E : Type 0) (text : List ℕ) (n : ℕ) (r : Result ℕ E) → is_plain text ≡ true → ParsesUnsigned 64 10 text r → r ≡ Ok n → text ≡ decimal n
number_read E text n (Err e) plain h is = absurd cc
number_read E text n (Ok m) plain h is =
    let p = parse_plain own {E = E} 64 text (Ok m) h (no_plus text plain) in
    let same : m ≡ n = cc in
    sym (ap decimal (sym same ∙ p.1) ∙ decimal-digits_value own text p.0.0 p.0.1 (no_zero text plain) p.0.2)

zero_plain : is_plain (48 ∷ []) ≡ true
unfolding is_plain
zero_plain = refl

pub plain_decimal : (n : ℕ) → n < 2 ^ 64 → is_plain (decimal n) ≡ true
plain_decimal zero small = subst (λ t. is_plain t ≡ true) (sym (decimal_digit 0 (omega arith))) zero_plain
plain_decimal (suc n) small =
    let first = first_decimal (suc n) (omega arith) small in
    let digits = digits_decimal own (suc n) small in
    let last = digit_at (decimal (suc n)) 0 digits (decimal_nonempty (suc n) small) in
    plain_by (decimal (suc n)) (λ is. absurd (omega arith)) (omega arith) (omega (arith, last))

pub number_spelled : {E : Type 0} (text : List ℕ) (n : ℕ) (r : Result ℕ E) → n < 2 ^ 64 → text ≡ decimal n → ParsesUnsigned 64 10 text r → r ≡ Ok n
number_spelled text n r small is h = parse-decimal 64 n text r small small is h

-- a number has no hyphen
pub no_hyphen : (n i : ℕ) → n < 2 ^ 64 → i < length (decimal n) → get_or (decimal n) i 0 ≢ 45
no_hyphen n i small below is =
    let digit = digit_at (decimal n) i (digits_decimal own n small) below in
    absurd (omega (arith, digit, is))
