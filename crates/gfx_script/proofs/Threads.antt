-- Numbers of threads: one digit or two.
use Rattle.std.proofs.Common.{◌≡◌, ℕ, suc, ◌+◌, ◌-◌, ◌*◌, ◌≤◌, nat_eq, nat_lt, nat_le, ◌&&◌, Bool, true, false, cond, List, [], ◌∷◌, length, Option, Some, None, refl, ap, ◌∙◌, arith}
use Rattle.std.specs.Str.{all_ascii_digits}
use Rattle.std.specs.Str.Parse.{digits_value, digits_value_after}
use Rattle.std.specs.Char as char
use Rattle.std.proofs.lemmas.Bool.{cond-true, cond-false}
use Rattle.std.proofs.lemmas.Bool.Decides.{nat_tests}
use Rattle.gfx_grammar.specs.Reading.{◌>>=◌}
use Rattle.gfx_text_grammar.specs.Words.{is_number_text, number_in}
use Rattle.gfx_script.specs.Plain.{digit_value, thread_in, one_digit, two_digits}

-- digits that follow make no number smaller
not_less : (n : ℕ) (ds : List ℕ) → n ≤ digits_value_after 10 n ds
not_less n [] = omega arith
not_less n (c ∷ cs) = let more = not_less (n * 10 + char.digit_value c) cs in omega (arith, more)

abbrev is_digit : ℕ → Bool
is_digit c = nat_le 48 c && nat_le c 57

digit_is : (c : ℕ) → is_digit c ≡ true → (char.digit_value c ≡ c - 48) × (48 ≤ c) × (c ≤ 57)
digit_is c h =
    let low : 48 ≤ c = grind (arith, nat_tests, h) in
    let high : c ≤ 57 = grind (arith, nat_tests, h) in
    let above : nat_lt c 48 ≡ false = grind (arith, nat_tests) in
    let below : nat_lt c 58 ≡ true = grind (arith, nat_tests) in
    (cond-false (nat_lt c 48) _ _ above ∙ cond-true (nat_lt c 58) _ _ below, low, high)

-- the number of digits, where they are a number below 64
abbrev number_by : (digits plain : Bool) → ℕ → Option ℕ
number_by digits plain n = cond ((digits && plain) && nat_lt n 64) (Some n) None

-- one digit
pub number-one : (a : ℕ) → number_in 64 (a ∷ []) ≡ one_digit a
unfolding number_in is_number_text
number-one a = by (is_digit a) refl (nat_eq a 48)
  where
    by : (b : Bool) → is_digit a ≡ b → (z : Bool)
        → number_by (b && true) (cond z true true) (digits_value 10 (a ∷ [])) ≡ (cond b (Some (a - 48)) None >>= thread_in)
    by false e z = refl
    by true e true = ap thread_in (ap (λ n. 0 * 10 + n) (digit_is a e).0 ∙ let same : 0 * 10 + (a - 48) ≡ a - 48 = omega arith in same)
    by true e false = ap thread_in (ap (λ n. 0 * 10 + n) (digit_is a e).0 ∙ let same : 0 * 10 + (a - 48) ≡ a - 48 = omega arith in same)

-- two digits, the first not 0
two : (a b : ℕ) → nat_eq a 48 ≡ false → number_in 64 (a ∷ b ∷ []) ≡ (digit_value a >>= λ t. digit_value b >>= λ o. thread_in (10 * t + o))
unfolding number_in is_number_text
two a b first = by (is_digit a) refl (is_digit b) refl (nat_eq a 48) first
  where
    by : (c : Bool) → is_digit a ≡ c → (d : Bool) → is_digit b ≡ d → (z : Bool) → z ≡ false
        → number_by (c && (d && true)) (cond z false true) (digits_value 10 (a ∷ b ∷ []))
        ≡ (cond c (Some (a - 48)) None >>= λ t. cond d (Some (b - 48)) None >>= λ o. thread_in (10 * t + o))
    by false e d k z h = refl
    by true e false k z h = refl
    by true e true k true h = absurd cc
    by true e true k false h =
        ap thread_in (let x = digit_is a e in let y = digit_is b k in let same : (0 * 10 + char.digit_value a) * 10 + char.digit_value b ≡ 10 * (a - 48) + (b - 48) = omega (arith, x.0, y.0) in same)

more_than_none : (n : ℕ) → nat_eq (suc n) 0 ≡ false
more_than_none n = grind (arith, nat_tests)

-- a zero before it
zero_first : (a b : ℕ) (ds : List ℕ) → nat_eq a 48 ≡ true → number_in 64 (a ∷ b ∷ ds) ≡ None
unfolding number_in is_number_text
zero_first a b ds h = by (all_ascii_digits (a ∷ b ∷ ds)) (nat_eq a 48) h (nat_eq (length (b ∷ ds)) 0) (more_than_none (length ds))
  where
    by : (d z : Bool) → z ≡ true → (l : Bool) → l ≡ false → number_by d (cond z l true) (digits_value 10 (a ∷ b ∷ ds)) ≡ None
    by d false e l k = absurd cc
    by d true e true k = absurd cc
    by true true e false k = refl
    by false true e false k = refl

-- two digits
pub number-two : (a b : ℕ) → number_in 64 (a ∷ b ∷ []) ≡ two_digits a b
number-two a b = by (nat_eq a 48) refl
  where
    by : (z : Bool) → nat_eq a 48 ≡ z → number_in 64 (a ∷ b ∷ []) ≡ cond z None (digit_value a >>= λ t. digit_value b >>= λ o. thread_in (10 * t + o))
    by true e = zero_first a b [] e
    by false e = two a b e

-- three digits and more
pub number-many : (a b c : ℕ) (ds : List ℕ) → number_in 64 (a ∷ b ∷ c ∷ ds) ≡ None
unfolding number_in is_number_text
number-many a b c ds = by (nat_eq a 48) refl (is_digit a) refl (all_ascii_digits (b ∷ c ∷ ds)) (nat_eq (length (b ∷ c ∷ ds)) 0) (more_than_none (length (c ∷ ds)))
  where
    by : (z : Bool) → nat_eq a 48 ≡ z → (d : Bool) → is_digit a ≡ d → (e l : Bool) → l ≡ false → number_by (d && e) (cond z l true) (digits_value 10 (a ∷ b ∷ c ∷ ds)) ≡ None
    by z h d k e true m = absurd cc
    by true h true k true false m = refl
    by true h false k true false m = refl
    by true h false k false false m = refl
    by true h true k false false m = refl
    by false h false k e false m = refl
    by false h true k false false m = refl
    by false h true k true false m =
        let first = digit_is a k in
        let other : 49 ≤ a = grind (arith, nat_tests, h, first.1) in
        let large = not_less (((0 * 10 + char.digit_value a) * 10 + char.digit_value b) * 10 + char.digit_value c) ds in
        let value : 64 ≤ digits_value 10 (a ∷ b ∷ c ∷ ds) = omega (arith, large, first.0, other) in
        let over : nat_lt (digits_value 10 (a ∷ b ∷ c ∷ ds)) 64 ≡ false = grind (arith, nat_tests, value) in
        cond-false (nat_lt (digits_value 10 (a ∷ b ∷ c ∷ ds)) 64) _ _ over

-- no digits
pub number-none : number_in 64 [] ≡ None
unfolding number_in is_number_text
number-none = refl
