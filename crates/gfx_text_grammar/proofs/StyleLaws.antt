-- Both styles of ids read what they show.
use Rattle.std.proofs.Common.{◌≡◌, ℕ, zero, suc, ◌+◌, ◌*◌, ◌/◌, ◌%◌, ◌<◌, ◌≤◌, nat_eq, nat_le, ◌&&◌, ◌||◌, Bool, true, false, cond, List, [], ◌∷◌, length, Some, refl, sym, ap, subst, ◌∙◌, arith, inl, inr, codes, ◌^◌, decimal}
use Rattle.std.proofs.lemmas.Option.{cond_some}
use Rattle.std.specs.List.{list_all}
use Rattle.std.proofs.lemmas.Bool.Decides.{nat_tests}
use Rattle.std.proofs.lemmas.Bool.{cond-true, cond-false, eqb-true, eq-eqb, leb-true, and_parts, and_from, or_right, lt-ltb, ltb-true}
use Rattle.gfx_model.specs.Checks.{same_list}
use Rattle.gfx_script_model.specs.Names.{is_letter, is_letter_or_digit, is_name, code, digits_within, name_of, is_code}
use Rattle.gfx_grammar.proofs.NumberLaws.{some_is}
use Rattle.gfx_grammar.proofs.EventLaws.{chosen}
use Rattle.gfx_text_grammar.specs.Styles.{read_name, named, numbered}
use Rattle.gfx_text_grammar.specs.Reads.{IsStyle}
use Rattle.gfx_text_grammar.proofs.ValueLaws.{letter_begins}
use Rattle.gfx_text_grammar.proofs.Lists.{same_list-true}
use Rattle.std.proofs.lemmas.Fmt.{decimal_nonempty}
use Rattle.gfx_text_grammar.proofs.WordLaws.{number_takes, number_again, decimal_letters}
use Rattle.gfx_model.specs.Events.{Event}
use Rattle.gfx_model.specs.Events.Event.{QueuePresentKHR}
use Rattle.gfx_model.specs.Fields.{field, named_fields, one_present}
use Rattle.gfx_model.specs.Fields.Value.{records}
use Rattle.gfx_model.specs.Fields.Records.{presents}
use Rattle.gfx_types.specs.declared.lists.Present.{Present}

-- ---- numbers

pub numbered_style : IsStyle numbered
numbered_style = record {
  takes = λ word n is. let h = number_takes (2 ^ 64) word n (omega arith) is in (h.0, lt-ltb _ _ h.1);
  again = λ n is. let lt : n < 2 ^ 64 = ltb-true _ _ is in (number_again (2 ^ 64) n (omega arith) lt, decimal_letters n lt);
  begins = λ n is. let lt : n < 2 ^ 64 = ltb-true _ _ is in letter_begins (decimal n) (decimal_nonempty n lt) (decimal_letters n lt);
  maybe_takes = λ word n is. let h = number_takes (2 ^ 64) word n (omega arith) is in (h.0, lt-ltb _ _ h.1);
  maybe_again = λ n is. let lt : n < 2 ^ 64 = ltb-true _ _ is in (number_again (2 ^ 64) n (omega arith) lt, decimal_letters n lt);
}

-- ---- names

letter_byte : (c : ℕ) → is_letter_or_digit c ≡ true → (1 ≤ c) × (c < 128)
letter_byte c h = (grind (arith, nat_tests, h), grind (arith, nat_tests, h))

digits_zero : (k : ℕ) → digits_within k 0 ≡ []
unfolding digits_within
digits_zero zero = refl
digits_zero (suc k) = refl

-- the digits of a text's number are the text
digits_code : (k : ℕ) (word : List ℕ) → list_all is_letter_or_digit word ≡ true → length word ≤ k → digits_within k (code word) ≡ word
unfolding digits_within
digits_code k [] all few = digits_zero k
digits_code zero (c ∷ cs) all few = absurd (omega (arith, few))
digits_code (suc k) (c ∷ cs) all few =
    let p = and_parts (is_letter_or_digit c) (list_all is_letter_or_digit cs) all in
    let b = letter_byte c p.0 in
    let some : nat_eq (c + 128 * code cs) 0 ≡ false = grind (arith, nat_tests, b.0) in
    let low : (c + 128 * code cs) % 128 ≡ c = omega (arith, b.1) in
    let high : (c + 128 * code cs) / 128 ≡ code cs = omega (arith, b.1) in
    cond-false _ _ _ some ∙ ap (λ n. n ∷ digits_within k ((c + 128 * code cs) / 128)) low ∙ ap (λ n. c ∷ digits_within k n) high ∙ ap (λ (z : List ℕ). c ∷ z) (digits_code k cs p.1 (omega (arith, few)))

pub name_letters : (word : List ℕ) → is_name word ≡ true → list_all is_letter_or_digit word ≡ true
name_letters [] h = absurd cc
name_letters (c ∷ cs) h =
    let p = and_parts (is_letter c && list_all is_letter_or_digit cs) (nat_le (length cs) 31) h in
    let q = and_parts (is_letter c) (list_all is_letter_or_digit cs) p.0 in
    and_from _ _ (ap (λ b. b || nat_le 48 c && nat_le c 57) q.0) q.1

pub name_long : (word : List ℕ) → is_name word ≡ true → (0 < length word) × (length word ≤ 32)
name_long [] h = absurd cc
name_long (c ∷ cs) h =
    let p = and_parts (is_letter c && list_all is_letter_or_digit cs) (nat_le (length cs) 31) h in
    let few : length cs ≤ 31 = leb-true _ _ p.1 in
    (omega arith, omega (arith, few))

code_some : (word : List ℕ) → is_name word ≡ true → 1 ≤ code word
code_some [] h = absurd cc
code_some (c ∷ cs) h =
    let all = name_letters (c ∷ cs) h in
    let b = letter_byte c (and_parts (is_letter_or_digit c) (list_all is_letter_or_digit cs) all).0 in
    omega (arith, b.0)

-- a name's number stands for the name
pub name_back : (word : List ℕ) → is_name word ≡ true → (name_of (code word) ≡ word) × (is_code (code word) ≡ true)
name_back word h =
    let some = code_some word h in
    let long = name_long word h in
    let same : name_of (code word) ≡ word = cond-false (nat_eq (code word) 0) _ _ (grind (arith, nat_tests, some)) ∙ digits_code 32 word (name_letters word h) long.1 in
    (same, and_from _ _ (ap is_name same ∙ h) (eq-eqb _ _ (ap code same)))

name_takes : (word : List ℕ) (n : ℕ) → read_name word ≡ Some n → (word ≡ name_of n) × (is_code n ≡ true)
name_takes word n is =
    let h = cond_some (is_name word) _ _ is in
    let b = name_back word h.0 in
    (sym b.0 ∙ ap name_of h.1, subst (λ k. is_code k ≡ true) h.1 b.1)

name_again : (n : ℕ) → is_code n ≡ true → (read_name (name_of n) ≡ Some n) × (list_all is_letter_or_digit (name_of n) ≡ true)
name_again n is =
    let p = and_parts (is_name (name_of n)) (nat_eq (code (name_of n)) n) is in
    (cond-true _ _ _ p.0 ∙ ap Some (eqb-true _ _ p.1), name_letters (name_of n) p.0)

maybe_again : (n : ℕ) (b : Bool) → nat_eq n 0 ≡ b → (b || is_code n) ≡ true → (named.read_maybe (name_of n) ≡ Some n) × (list_all is_letter_or_digit (name_of n) ≡ true)
maybe_again n true e is = subst (λ k. (named.read_maybe (name_of k) ≡ Some k) × (list_all is_letter_or_digit (name_of k) ≡ true)) (sym (eqb-true n 0 e)) (refl, refl)
maybe_again n false e is =
    let g = name_again n is in
    let p = and_parts (is_name (name_of n)) (nat_eq (code (name_of n)) n) is in
    (by (same_list (name_of n) (codes "0")) refl p.0 g.0, g.1)
  where
    by : (b : Bool) → same_list (name_of n) (codes "0") ≡ b → is_name (name_of n) ≡ true → read_name (name_of n) ≡ Some n → cond b (Some 0) (read_name (name_of n)) ≡ Some n
    by true same h q = let no : false ≡ true = sym (ap is_name (same_list-true (name_of n) (codes "0") same)) ∙ h in absurd cc
    by false same h q = q

pub named_style : IsStyle named
named_style = record {
  takes = λ word n is. name_takes word n is;
  again = λ n is. name_again n is;
  begins = λ n is.
      let p = and_parts (is_name (name_of n)) (nat_eq (code (name_of n)) n) is in
      letter_begins (name_of n) (name_long (name_of n) p.0).0 (name_letters (name_of n) p.0);
  maybe_takes = λ word n is.
      elim (chosen (same_list word (codes "0")) (Some 0) (read_name word) (Some n) is) [
        | inl zero_text ↦ subst (λ k. (word ≡ name_of k) × ((nat_eq k 0 || is_code k) ≡ true)) (some_is 0 n zero_text.1) (same_list-true word (codes "0") zero_text.0, refl)
        | inr name ↦ let h = name_takes word n name.1 in (h.0, or_right (nat_eq n 0) (is_code n) h.1)
      ];
  maybe_again = λ n is. maybe_again n (nat_eq n 0) refl is;
}

-- ---- the names of fields

pub fields_named : (m : ℕ) (e : Event) → list_all (λ f. is_name f.name) (named_fields m e) ≡ true
fields_named m (QueuePresentKHR queue waits ps) = by (nat_eq m 1) ps
  where
    by : (b : Bool) (ps : List Present) → list_all (λ f. is_name f.name) (cond b (one_present ps) (field "presents" (records (presents ps)) ∷ [])) ≡ true
    by true [] = refl
    by true (p ∷ []) = refl
    by true (p ∷ q ∷ ps) = refl
    by false ps = refl
fields_named m _ = refl
