-- Laws of words: what is read of a word shows so, and what shows so is read.
use Rattle.std.proofs.Common.{◌≡◌, ℕ, zero, suc, ◌+◌, ◌*◌, ◌-◌, ◌/◌, ◌%◌, ◌<◌, ◌≤◌, ◌^◌, ◌==◌, nat_le, nat_lt, ◌&&◌, not, Bool, true, false, cond, List, [], ◌∷◌, ◌++◌, length, get_or, Some, None, refl, sym, ap, subst, ◌∙◌, arith}
use Rattle.std.proofs.lemmas.Option.{cond_some}
use Rattle.std.specs.Prelude.{decimal}
use Rattle.std.specs.Str.{all_ascii_digits}
use Rattle.std.specs.Str.Parse.{digits_value}
use Rattle.std.specs.List.{AllByRecursion, list_all}
use Rattle.std.proofs.lemmas.Bool.Decides.{nat_tests}
use Rattle.std.proofs.lemmas.Bool.{cond-true, cond-false, lt-ltb, ltb-true, and_parts, and_from}
use Rattle.std.proofs.lemmas.Str.Parse.{IsNumeralModel, numerals_by_value, tells_all_ascii_digits}
use Rattle.std.proofs.lemmas.Fmt.{decimal-digits_value, decimal_nonempty, decimal_digit, first_decimal, digits_decimal, digits_value-decimal}
use Rattle.gfx_script_model.specs.Names.{is_letter_or_digit}
use Rattle.gfx_model.specs.Text.{hex_digit, hex_byte, hex_text}
use Rattle.gfx_grammar.specs.Reading.{◌>>=◌}
use Rattle.gfx_grammar.proofs.NumberLaws.{bind_some, some_is}
use Rattle.gfx_text_grammar.specs.Words.{word_of, after_word, ends_word, is_plain, is_number_text, number_in, hex_value, byte_of, bytes_of, raw_in}
use Rattle.gfx_text_grammar.specs.Laws.{NumbersAreRead}

-- ---- where a word ends

pub word-parts : (text : List ℕ) → word_of text ++ after_word text ≡ text
word-parts [] = refl
word-parts (c ∷ cs) = by (is_letter_or_digit c) (word-parts cs)
  where
    by : (b : Bool) → word_of cs ++ after_word cs ≡ cs → cond b (c ∷ word_of cs) [] ++ cond b (after_word cs) (c ∷ cs) ≡ c ∷ cs
    by true h = ap (λ (t : List ℕ). c ∷ t) h
    by false h = refl

pub word-all : (word rest : List ℕ) → list_all is_letter_or_digit word ≡ true → ends_word rest ≡ true → (word_of (word ++ rest) ≡ word) × (after_word (word ++ rest) ≡ rest)
word-all [] [] all end = (refl, refl)
word-all [] (c ∷ cs) all end = by (is_letter_or_digit c) end
  where
    by : (b : Bool) → not b ≡ true → (cond b (c ∷ word_of cs) [] ≡ []) × (cond b (after_word cs) (c ∷ cs) ≡ c ∷ cs)
    by true e = absurd cc
    by false e = (refl, refl)
word-all (c ∷ cs) rest all end =
    let h = and_parts (is_letter_or_digit c) (list_all is_letter_or_digit cs) all in
    let more = word-all cs rest h.1 end in
    (cond-true (is_letter_or_digit c) _ _ h.0 ∙ ap (λ (t : List ℕ). c ∷ t) more.0, cond-true (is_letter_or_digit c) _ _ h.0 ∙ more.1)

-- ---- numbers

own : IsNumeralModel (λ ds. all_ascii_digits ds ≡ true) (digits_value 10)
own = numerals_by_value (λ ds. all_ascii_digits ds ≡ true) tells_all_ascii_digits

plain_long : (word : List ℕ) → is_plain word ≡ true → 0 < length word
plain_long [] h = absurd cc
plain_long (c ∷ cs) h = omega arith

plain_zero : (word : List ℕ) → is_plain word ≡ true → get_or word 0 0 ≡ 48 → length word ≡ 1
plain_zero [] h is = absurd cc
plain_zero (c ∷ cs) h is = by (c == 48) refl h
  where
    by : (b : Bool) → (c == 48) ≡ b → cond b (length cs == 0) true ≡ true → length (c ∷ cs) ≡ 1
    by true e p = grind (arith, nat_tests, p)
    by false e p = absurd (let no : ⊥ = grind (arith, nat_tests, e, is) in no)

plain_first : (word : List ℕ) → 0 < length word → 48 < get_or word 0 0 → is_plain word ≡ true
plain_first [] h is = absurd (omega arith)
plain_first (c ∷ cs) h is = cond-false (c == 48) _ _ (grind (arith, nat_tests))

plain_decimal : (n : ℕ) → n < 2 ^ 64 → is_plain (decimal n) ≡ true
plain_decimal zero small = subst (λ t. is_plain t ≡ true) (sym (decimal_digit 0 (omega arith))) refl
plain_decimal (suc n) small = plain_first (decimal (suc n)) (decimal_nonempty (suc n) small) (first_decimal (suc n) (omega arith) small)

pub numbers_are_read : NumbersAreRead
unfolding number_in is_number_text
numbers_are_read limit word n small = (
  λ is.
      let h = cond_some _ _ _ is in
      let t = and_parts (is_number_text word) (nat_lt (digits_value 10 word) limit) h.0 in
      let p = and_parts (all_ascii_digits word) (is_plain word) t.0 in
      let lt : digits_value 10 word < limit = ltb-true _ _ t.1 in
      let same : decimal (digits_value 10 word) ≡ word = decimal-digits_value own word p.0 (plain_long word p.1) (plain_zero word p.1) (omega arith) in
      (sym same ∙ ap decimal h.1, subst (λ k. k < limit) h.1 lt),
  λ lt is.
      let fits : n < 2 ^ 64 = omega arith in
      let value : digits_value 10 word ≡ n = ap (digits_value 10) is ∙ digits_value-decimal own n fits in
      let digits : all_ascii_digits word ≡ true = ap all_ascii_digits is ∙ digits_decimal own n fits in
      let plain : is_plain word ≡ true = ap is_plain is ∙ plain_decimal n fits in
      let below : nat_lt (digits_value 10 word) limit ≡ true = lt-ltb _ _ (omega (arith, value)) in
      cond-true _ (Some (digits_value 10 word)) None (and_from _ _ (and_from _ _ digits plain) below) ∙ ap Some value,
)

pub number_takes : (limit : ℕ) (word : List ℕ) (n : ℕ) → limit ≤ 2 ^ 64 → number_in limit word ≡ Some n → (word ≡ decimal n) × (n < limit)
number_takes limit word n small is = (numbers_are_read limit word n small).0 is

pub number_again : (limit n : ℕ) → limit ≤ 2 ^ 64 → n < limit → number_in limit (decimal n) ≡ Some n
number_again limit n small lt = (numbers_are_read limit (decimal n) n small).1 lt refl

digit_letter : (c : ℕ) → (nat_le 48 c && nat_le c 57) ≡ true → is_letter_or_digit c ≡ true
digit_letter c h = rw h (grind (arith, nat_tests))

digits_letters : (word : List ℕ) → all_ascii_digits word ≡ true → list_all is_letter_or_digit word ≡ true
digits_letters [] h = refl
digits_letters (c ∷ cs) h =
    let p = and_parts _ _ h in
    and_from _ _ (digit_letter c p.0) (digits_letters cs p.1)

pub decimal_letters : (n : ℕ) → n < 2 ^ 64 → list_all is_letter_or_digit (decimal n) ≡ true
decimal_letters n small = digits_letters (decimal n) (digits_decimal own n small)

-- ---- bytes

hex_takes : (c n : ℕ) → hex_value c ≡ Some n → (c ≡ hex_digit n) × (n < 16)
hex_takes c n h = by (nat_le 48 c && nat_le c 57) refl h
  where
    letter : (b : Bool) → (nat_le 97 c && nat_le c 102) ≡ b → cond b (Some (c - 87)) None ≡ Some n → (c ≡ hex_digit n) × (n < 16)
    letter false e p = absurd cc
    letter true e p =
        let is : c - 87 ≡ n = some_is _ _ p in
        let low : 97 ≤ c = grind (arith, nat_tests, e) in
        let high : c ≤ 102 = grind (arith, nat_tests, e) in
        (sym (cond-false (nat_lt n 10) (48 + n) (87 + n) (grind (arith, nat_tests, low, is)) ∙ omega arith), omega arith)

    by : (b : Bool) → (nat_le 48 c && nat_le c 57) ≡ b → cond b (Some (c - 48)) (cond (nat_le 97 c && nat_le c 102) (Some (c - 87)) None) ≡ Some n → (c ≡ hex_digit n) × (n < 16)
    by true e p =
        let is : c - 48 ≡ n = some_is _ _ p in
        let low : 48 ≤ c = grind (arith, nat_tests, e) in
        let high : c ≤ 57 = grind (arith, nat_tests, e) in
        (sym (cond-true (nat_lt n 10) (48 + n) (87 + n) (grind (arith, nat_tests, high, is)) ∙ omega arith), omega arith)
    by false e p = letter (nat_le 97 c && nat_le c 102) refl p

hex_again : (n : ℕ) → n < 16 → (hex_value (hex_digit n) ≡ Some n) × (is_letter_or_digit (hex_digit n) ≡ true)
hex_again n small = by (nat_lt n 10) refl
  where
    by : (b : Bool) → nat_lt n 10 ≡ b → (hex_value (cond b (48 + n) (87 + n)) ≡ Some n) × (is_letter_or_digit (cond b (48 + n) (87 + n)) ≡ true)
    by true e = (
      cond-true (nat_le 48 (48 + n) && nat_le (48 + n) 57) _ _ (grind (arith, nat_tests, e)) ∙ ap Some (omega arith),
      grind (arith, nat_tests, e),
    )
    by false e = (
      cond-false (nat_le 48 (87 + n) && nat_le (87 + n) 57) _ _ (grind (arith, nat_tests, e))
          ∙ cond-true (nat_le 97 (87 + n) && nat_le (87 + n) 102) _ _ (grind (arith, nat_tests, e, small)) ∙ ap Some (omega arith),
      grind (arith, nat_tests, e, small),
    )

byte_takes : (h l b : ℕ) → byte_of h l ≡ Some b → (h ∷ l ∷ [] ≡ hex_byte b) × (b < 256)
byte_takes h l b is =
    let x = bind_some (hex_value h) (λ a. hex_value l >>= λ b. Some (16 * a + b)) b is in
    let y = bind_some (hex_value l) (λ b. Some (16 * x.0 + b)) b x.2 in
    let made : 16 * x.0 + y.0 ≡ b = some_is _ _ y.2 in
    let p = hex_takes h x.0 x.1 in
    let q = hex_takes l y.0 y.1 in
    let high : b / 16 ≡ x.0 = omega (arith, made, p.1, q.1) in
    let low : b % 16 ≡ y.0 = omega (arith, made, p.1, q.1) in
    (rw (high, low, ← p.0, ← q.0) refl, omega (arith, made, p.1, q.1))

byte_again : (b : ℕ) → b < 256 → byte_of (hex_digit (b / 16)) (hex_digit (b % 16)) ≡ Some b
byte_again b small =
    let p : hex_value (hex_digit (b / 16)) ≡ Some (b / 16) = (hex_again (b / 16) (omega arith)).0 in
    let q : hex_value (hex_digit (b % 16)) ≡ Some (b % 16) = (hex_again (b % 16) (omega arith)).0 in
    ap (λ o. o >>= λ x. hex_value (hex_digit (b % 16)) >>= λ y. Some (16 * x + y)) p
    ∙ ap (λ o. o >>= λ y. Some (16 * (b / 16) + y)) q
    ∙ ap Some (omega arith)

bytes_takes : (word bs : List ℕ) → bytes_of word ≡ Some bs → (word ≡ hex_text bs) × AllByRecursion (λ b. b < 256) bs
unfolding bytes_of
bytes_takes [] bs is =
    subst (λ (z : List ℕ). ([] ≡ hex_text z) × AllByRecursion (λ b. b < 256) z) (some_is _ _ is) (refl, tt)
bytes_takes (h ∷ []) bs is = absurd cc
bytes_takes (h ∷ l ∷ cs) bs is =
    let x = bind_some (byte_of h l) (λ b. bytes_of cs >>= λ bs. Some (b ∷ bs)) bs is in
    let y = bind_some (bytes_of cs) (λ bs. Some (x.0 ∷ bs)) bs x.2 in
    let p = byte_takes h l x.0 x.1 in
    let q = bytes_takes cs y.0 y.1 in
    subst (λ (z : List ℕ). (h ∷ l ∷ cs ≡ hex_text z) × AllByRecursion (λ b. b < 256) z) (some_is (x.0 ∷ y.0) bs y.2)
    (ap (λ (t : List ℕ). t ++ cs) p.0 ∙ ap (λ (t : List ℕ). hex_byte x.0 ++ t) q.0, (p.1, q.1))

bytes_again : (bs : List ℕ) → AllByRecursion (λ b. b < 256) bs → (bytes_of (hex_text bs) ≡ Some bs) × (list_all is_letter_or_digit (hex_text bs) ≡ true)
unfolding bytes_of
bytes_again [] fits = (refl, refl)
bytes_again (b ∷ bs) fits =
    let more = bytes_again bs fits.1 in
    let small : b < 256 = fits.0 in (
      ap (λ o. o >>= λ x. bytes_of (hex_text bs) >>= λ xs. Some (x ∷ xs)) (byte_again b small) ∙ ap (λ o. o >>= λ xs. Some (b ∷ xs)) more.0,
      and_from _ _ (hex_again (b / 16) (omega arith)).1 (and_from _ _ (hex_again (b % 16) (omega arith)).1 more.1),
    )

abbrev pub RawFits : List ℕ → Type 0
RawFits bs = (length bs < 2 ^ 64) × AllByRecursion (λ b. b < 256) bs

pub raw_takes : (word bs : List ℕ) → raw_in word ≡ Some bs → (word ≡ hex_text bs) × RawFits bs
unfolding raw_in
raw_takes word bs is =
    let x = bind_some (bytes_of word) (λ bs. cond (nat_lt (length bs) (2 ^ 64)) (Some bs) None) bs is in
    let y = cond_some _ _ _ x.2 in
    let p = bytes_takes word x.0 x.1 in
    subst (λ (z : List ℕ). (word ≡ hex_text z) × RawFits z) y.1 (p.0, (ltb-true _ _ y.0, p.1))

pub raw_again : (bs : List ℕ) → RawFits bs → raw_in (hex_text bs) ≡ Some bs
unfolding raw_in
raw_again bs fits =
    ap (λ o. o >>= λ xs. cond (nat_lt (length xs) (2 ^ 64)) (Some xs) None) (bytes_again bs fits.1).0
    ∙ cond-true _ _ _ (lt-ltb _ _ fits.0)

pub hex_letters : (bs : List ℕ) → RawFits bs → list_all is_letter_or_digit (hex_text bs) ≡ true
hex_letters bs fits = (bytes_again bs fits.1).1
