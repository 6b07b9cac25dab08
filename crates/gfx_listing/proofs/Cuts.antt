-- Texts that are one word, and texts that are cut at a byte.
use Rattle.std.proofs.Common.{◌≡◌, ℕ, zero, suc, ◌+◌, ◌-◌, ◌<◌, ◌≤◌, ◌^◌, ◌==◌, nat_eq, nat_lt, not, ◌&&◌, Bool, true, false, cond, List, [], ◌∷◌, ◌++◌, length, get_or, take, drop, map, Option, Some, None, refl, sym, ap, subst, ◌∙◌, arith, append-nil, length-append, length-drop, codes}
use Rattle.std.specs.Prelude.{position}
use Rattle.std.specs.List.{position_or_len, list_all, onto_first}
use Rattle.std.proofs.lemmas.List.{length-map, take_all}
use Rattle.std.proofs.lemmas.Bool.{cond-false, ne_eqb, eqb-true, and_parts, and_from, ltb-true, ltb-false, not-true}
use Rattle.gfx_script_model.specs.Names.{is_letter_or_digit}
use Rattle.gfx_grammar.specs.Reading.{◌>>=◌, Reader}
use Rattle.gfx_grammar.specs.Rows.{if_none_left}
use Rattle.gfx_grammar.proofs.NumberLaws.{some_is}
use Rattle.gfx_text_grammar.specs.Words.{word_of, after_word, number_in, raw_in}
use Rattle.gfx_text_grammar.specs.Reading.{read_word, behind, read_u32, read_u64, read_raw}
use Rattle.gfx_text_grammar.specs.FieldReading.{whole, without_front, named_value}
use Rattle.gfx_text_grammar.specs.Splits.{is_without, tokens_of}
use Rattle.gfx_text_grammar.specs.Listings.{read_pair}
use Rattle.gfx_text_grammar.proofs.ReaderLaws.{behind-same}
use Rattle.gfx_text_grammar.proofs.WordLaws.{word-parts, word-all, number_takes, decimal_letters, raw_takes, hex_letters}

-- ---- a text that is one word

-- a value, where the text behind it is empty
abbrev finish : {X : Type 0} → Option (X × List ℕ) → Option X
finish o = o >>= λ x. if_none_left x.0 x.1

-- a value and the text behind it
abbrev with_rest : {X : Type 0} → List ℕ → Option X → Option (X × List ℕ)
with_rest rest o = o >>= λ x. Some (x, rest)

taken : {X : Type 0} (o : Option X) → finish (with_rest [] o) ≡ o
taken (Some x) = refl
taken None = refl

-- more follows the word
left_over : {X : Type 0} (o : Option X) (c : ℕ) (cs : List ℕ) → finish (with_rest (c ∷ cs) o) ≡ None
left_over None c cs = refl
left_over (Some x) c cs = cond-false (nat_eq (length (c ∷ cs)) 0) (Some x) None (ne_eqb (length (c ∷ cs)) 0 (λ h. omega (arith, h)))

-- a value whose texts are words is that of a whole text
pub whole_word : {X : Type 0} (value : List ℕ → Option X) (text : List ℕ) → ((x : X) → value text ≡ Some x → list_all is_letter_or_digit text ≡ true)
    → whole (read_word value) text ≡ value text
unfolding whole read_word
whole_word {X} value text letters = by (after_word text) refl
  where
    no_more : (c : ℕ) (cs : List ℕ) → after_word text ≡ c ∷ cs → (o : Option X) → value text ≡ o → o ≡ None
    no_more c cs e None is = refl
    no_more c cs e (Some x) is =
        let h = (word-all text [] (letters x is) refl).1 in
        absurd (let no : [] ≡ c ∷ cs = sym h ∙ ap after_word (append-nil text) ∙ e in cc)

    by : (rest : List ℕ) → after_word text ≡ rest → finish (with_rest (after_word text) (value (word_of text))) ≡ value text
    by [] e =
        let all : word_of text ≡ text = sym (append-nil (word_of text)) ∙ ap (λ (z : List ℕ). word_of text ++ z) (sym e) ∙ word-parts text in
        ap (λ (z : List ℕ). finish (with_rest (after_word text) (value z))) all
        ∙ ap (λ (z : List ℕ). finish (with_rest z (value text))) e
        ∙ taken (value text)
    by (c ∷ cs) e =
        ap (λ (z : List ℕ). finish (with_rest z (value (word_of text)))) e
        ∙ left_over (value (word_of text)) c cs
        ∙ sym (no_more c cs e (value text) refl)

number_letters : (limit : ℕ) (text : List ℕ) (n : ℕ) → limit ≤ 2 ^ 64 → number_in limit text ≡ Some n → list_all is_letter_or_digit text ≡ true
number_letters limit text n small is =
    let h = number_takes limit text n small is in
    ap (list_all is_letter_or_digit) h.0 ∙ decimal_letters n (omega (arith, h.1, small))

pub whole_u64 : (text : List ℕ) → whole read_u64 text ≡ number_in (2 ^ 64) text
whole_u64 text = whole_word (number_in (2 ^ 64)) text (λ n is. number_letters (2 ^ 64) text n (omega arith) is)

whole_u32 : (text : List ℕ) → whole read_u32 text ≡ number_in (2 ^ 32) text
whole_u32 text = whole_word (number_in (2 ^ 32)) text (λ n is. number_letters (2 ^ 32) text n (omega arith) is)

pub whole_raw : (text : List ℕ) → whole read_raw text ≡ raw_in text
whole_raw text = whole_word raw_in text (λ bs is. let h = raw_takes text bs is in ap (list_all is_letter_or_digit) h.0 ∙ hex_letters bs h.1)

-- the value of a field whose text is one word
pub named_is : {X : Type 0} (name : List ℕ) (r : Reader X) (value : List ℕ → Option X) (token : List ℕ) → ((t : List ℕ) → whole r t ≡ value t)
    → named_value name r token ≡ (without_front (name ++ codes "=") token >>= value)
named_is {X} name r value token same = by (without_front (name ++ codes "=") token)
  where
    by : (o : Option (List ℕ)) → (o >>= whole r) ≡ (o >>= value)
    by None = refl
    by (Some t) = same t

-- ---- a text that is cut

-- how many bytes are before the first such byte
abbrev to_byte : ℕ → List ℕ → ℕ
to_byte c text = position_or_len (λ d. d == c) text

take_one : (k c : ℕ) (cs : List ℕ) → take (1 + k) (c ∷ cs) ≡ c ∷ take k cs
take_one k c cs = let e : 1 + k ≡ suc k = omega arith in ap (λ n. take n (c ∷ cs)) e

drop_two : (k c : ℕ) (cs : List ℕ) → drop (1 + k + 1) (c ∷ cs) ≡ drop (k + 1) cs
drop_two k c cs = let e : 1 + k + 1 ≡ suc (k + 1) = omega arith in ap (λ n. drop n (c ∷ cs)) e

-- the text is cut here, around the first such byte
abbrev IsCut : ℕ → List ℕ → ℕ → Type 0
IsCut c text i = (is_without c (take i text) ≡ true) × (text ≡ take i text ++ c ∷ drop (i + 1) text)

cut_there : (c : ℕ) (text : List ℕ) → to_byte c text < length text → IsCut c text (to_byte c text)
cut_there c [] h = absurd (omega arith)
cut_there c (x ∷ xs) h = by (x == c) refl h (cut_there c xs)
  where
    by : (b : Bool) → (x == c) ≡ b → cond (not b) (1 + to_byte c xs) 0 < length (x ∷ xs) → (to_byte c xs < length xs → IsCut c xs (to_byte c xs))
        → IsCut c (x ∷ xs) (cond (not b) (1 + to_byte c xs) 0)
    by true e l more = (refl, ap (λ n. n ∷ xs) (eqb-true x c e))
    by false e l more =
        let k = to_byte c xs in
        let m = more (omega arith) in (
          ap (is_without c) (take_one k x xs) ∙ and_from (not (x == c)) (is_without c (take k xs)) (ap not e) m.0,
          ap (λ (z : List ℕ). x ∷ z) m.1
              ∙ ap (λ (z : List ℕ). (x ∷ take k xs) ++ c ∷ z) (sym (drop_two k x xs))
              ∙ ap (λ (z : List ℕ). z ++ c ∷ drop (1 + k + 1) (x ∷ xs)) (sym (take_one k x xs)),
        )

cut_nowhere : (c : ℕ) (text : List ℕ) → length text ≤ to_byte c text → is_without c text ≡ true
cut_nowhere c [] h = refl
cut_nowhere c (x ∷ xs) h = by (x == c) refl h (cut_nowhere c xs)
  where
    by : (b : Bool) → (x == c) ≡ b → length (x ∷ xs) ≤ cond (not b) (1 + to_byte c xs) 0 → (length xs ≤ to_byte c xs → is_without c xs ≡ true) → is_without c (x ∷ xs) ≡ true
    by true e l more = absurd (omega arith)
    by false e l more = and_from (not (x == c)) (is_without c xs) (ap not e) (more (omega arith))

pub cut_at : (c : ℕ) (text : List ℕ) (i : ℕ) → position (λ d. d == c) text ≡ Some i → IsCut c text i × (i < length text)
cut_at c text i is = by (nat_lt (to_byte c text) (length text)) refl is
  where
    by : (b : Bool) → nat_lt (to_byte c text) (length text) ≡ b → cond b (Some (to_byte c text)) None ≡ Some i → IsCut c text i × (i < length text)
    by false e h = absurd cc
    by true e h =
        let same = some_is (to_byte c text) i h in
        let there = ltb-true (to_byte c text) (length text) e in
        (subst (IsCut c text) same (cut_there c text there), subst (λ n. n < length text) same there)

pub cut_not : (c : ℕ) (text : List ℕ) → position (λ d. d == c) text ≡ None → is_without c text ≡ true
cut_not c text is = by (nat_lt (to_byte c text) (length text)) refl is
  where
    by : (b : Bool) → nat_lt (to_byte c text) (length text) ≡ b → cond b (Some (to_byte c text)) None ≡ None → is_without c text ≡ true
    by true e h = absurd cc
    by false e h = cut_nowhere c text (ltb-false (to_byte c text) (length text) e)

-- ---- options

-- the word of a text doesn't end at a byte that isn't there
not_behind : (c : ℕ) (text rest : List ℕ) → list_all is_letter_or_digit text ≡ false → is_without c text ≡ true → behind c (after_word (text ++ rest)) ≡ None
not_behind c [] rest all other = absurd cc
not_behind c (x ∷ xs) rest all other =
    let p = and_parts (not (x == c)) (is_without c xs) other in
    by (is_letter_or_digit x) all (λ h. not_behind c xs rest h p.1) p.0
  where
    by : (b : Bool) → (b && list_all is_letter_or_digit xs) ≡ false → (list_all is_letter_or_digit xs ≡ false → behind c (after_word (xs ++ rest)) ≡ None)
        → not (x == c) ≡ true → behind c (cond b (after_word (xs ++ rest)) (x ∷ (xs ++ rest))) ≡ None
    by true h more q = more h
    by false h more q = cond-false (x == c) (Some (xs ++ rest)) None (not-true (x == c) q)

nothing_behind : (c : ℕ) (text : List ℕ) → is_without c text ≡ true → behind c (after_word text) ≡ None
nothing_behind c text other = by (list_all is_letter_or_digit text) refl
  where
    by : (b : Bool) → list_all is_letter_or_digit text ≡ b → behind c (after_word text) ≡ None
    by true e = ap (λ (z : List ℕ). behind c (after_word z)) (sym (append-nil text)) ∙ ap (behind c) (word-all text [] e refl).1
    by false e = ap (λ (z : List ℕ). behind c (after_word z)) (sym (append-nil text)) ∙ not_behind c text [] e other

-- what is read of a key, an = and a value
abbrev pub pair_by : Option ℕ → Option ℕ → Option (ℕ × ℕ)
pair_by key value = key >>= λ k. value >>= λ v. Some (k, v)

-- an = and a value behind a key
abbrev pair_end : ℕ → Option (List ℕ) → Option ((ℕ × ℕ) × List ℕ)
pair_end k o = o >>= λ t. read_u32 t >>= λ v. Some ((k, v.0), v.1)

-- a key before what is read
abbrev with_key : ℕ → Option (ℕ × List ℕ) → Option ((ℕ × ℕ) × List ℕ)
with_key k o = o >>= λ v. Some ((k, v.0), v.1)

-- what is read behind a key
abbrev pair_rest : Option (ℕ × List ℕ) → Option ((ℕ × ℕ) × List ℕ)
pair_rest o = o >>= λ k. pair_end k.0 (behind 61 k.1)

-- without an = behind its first word a text is no option
no_pair : (text : List ℕ) → behind 61 (after_word text) ≡ None → whole read_pair text ≡ None
unfolding whole read_pair read_word
no_pair text none = by (number_in (2 ^ 32) (word_of text))
  where
    by : (o : Option ℕ) → finish (pair_rest (with_rest (after_word text) o)) ≡ None
    by None = refl
    by (Some n) = ap (λ (o : Option (List ℕ)). finish (pair_end n o)) none

pub no_equals : (text : List ℕ) → is_without 61 text ≡ true → whole read_pair text ≡ None
no_equals text other = no_pair text (nothing_behind 61 text other)

-- a key, an = and a value
pub pair_is : (text key value : List ℕ) → is_without 61 key ≡ true → text ≡ key ++ 61 ∷ value
    → whole read_pair text ≡ pair_by (number_in (2 ^ 32) key) (number_in (2 ^ 32) value)
unfolding whole read_pair read_word
pair_is text key value other is = ap (whole read_pair) is ∙ by (list_all is_letter_or_digit key) refl
  where
    -- the value is all that is left
    left : (k v : ℕ) (rest : List ℕ) → if_none_left {X = ℕ × ℕ} (k, v) rest ≡ (if_none_left v rest >>= λ v. Some (k, v))
    left k v [] = refl
    left k v (c ∷ cs) =
        let more : nat_eq (length (c ∷ cs)) 0 ≡ false = ne_eqb (length (c ∷ cs)) 0 (λ h. omega (arith, h)) in
        cond-false (nat_eq (length (c ∷ cs)) 0) (Some (k, v)) None more ∙ ap (λ (o : Option ℕ). o >>= λ v. Some (k, v)) (sym (cond-false (nat_eq (length (c ∷ cs)) 0) (Some v) None more))

    last : (k : ℕ) (t : List ℕ) → finish (pair_end k (Some t)) ≡ (whole read_u32 t >>= λ v. Some (k, v))
    last k t = by (read_u32 t)
      where
        by : (o : Option (ℕ × List ℕ)) → finish (with_key k o) ≡ (finish o >>= λ v. Some (k, v))
        by None = refl
        by (Some x) = left k x.0 x.1

    keyed : (o : Option ℕ) → finish (pair_rest (with_rest (61 ∷ value) o)) ≡ pair_by o (number_in (2 ^ 32) value)
    keyed None = refl
    keyed (Some k) =
        ap (λ (o : Option (List ℕ)). finish (pair_end k o)) (behind-same 61 value)
        ∙ last k value
        ∙ ap (λ (o : Option ℕ). o >>= λ v. Some (k, v)) (whole_u32 value)

    word : list_all is_letter_or_digit key ≡ true → whole read_pair (key ++ 61 ∷ value) ≡ pair_by (number_in (2 ^ 32) key) (number_in (2 ^ 32) value)
    word e =
        let w = word-all key (61 ∷ value) e refl in
        ap (λ (z : List ℕ). finish (pair_rest (with_rest (after_word (key ++ 61 ∷ value)) (number_in (2 ^ 32) z)))) w.0
        ∙ ap (λ (z : List ℕ). finish (pair_rest (with_rest z (number_in (2 ^ 32) key)))) w.1
        ∙ keyed (number_in (2 ^ 32) key)

    no_number : list_all is_letter_or_digit key ≡ false → (o : Option ℕ) → number_in (2 ^ 32) key ≡ o → o ≡ None
    no_number e None h = refl
    no_number e (Some n) h = absurd (let no : true ≡ false = sym (number_letters (2 ^ 32) key n (omega arith) h) ∙ e in cc)

    by : (b : Bool) → list_all is_letter_or_digit key ≡ b → whole read_pair (key ++ 61 ∷ value) ≡ pair_by (number_in (2 ^ 32) key) (number_in (2 ^ 32) value)
    by true e = word e
    by false e = no_pair (key ++ 61 ∷ value) (not_behind 61 key (61 ∷ value) e other) ∙ ap (λ (o : Option ℕ). pair_by o (number_in (2 ^ 32) value)) (sym (no_number e (number_in (2 ^ 32) key) refl))

pub pair_no_key : (text key value : List ℕ) → is_without 61 key ≡ true → text ≡ key ++ 61 ∷ value → number_in (2 ^ 32) key ≡ None → whole read_pair text ≡ None
pair_no_key text key value other is none = pair_is text key value other is ∙ ap (λ (o : Option ℕ). pair_by o (number_in (2 ^ 32) value)) none

pub pair_key : (text key value : List ℕ) (k : ℕ) → is_without 61 key ≡ true → text ≡ key ++ 61 ∷ value → number_in (2 ^ 32) key ≡ Some k
    → whole read_pair text ≡ (number_in (2 ^ 32) value >>= λ v. Some (k, v))
pair_key text key value k other is number = pair_is text key value other is ∙ ap (λ (o : Option ℕ). pair_by o (number_in (2 ^ 32) value)) number

pub pair_no_value : (text key value : List ℕ) (k : ℕ) → is_without 61 key ≡ true → text ≡ key ++ 61 ∷ value → number_in (2 ^ 32) key ≡ Some k → number_in (2 ^ 32) value ≡ None
    → whole read_pair text ≡ None
pair_no_value text key value k other is number none = pair_key text key value k other is number ∙ ap (λ (o : Option ℕ). o >>= λ v. Some (k, v)) none

pub pair_both : (text key value : List ℕ) (k v : ℕ) → is_without 61 key ≡ true → text ≡ key ++ 61 ∷ value → number_in (2 ^ 32) key ≡ Some k → number_in (2 ^ 32) value ≡ Some v
    → whole read_pair text ≡ Some (k, v)
pair_both text key value k v other is number second = pair_key text key value k other is number ∙ ap (λ (o : Option ℕ). o >>= λ v. Some (k, v)) second

-- ---- tokens

-- a text without a space is one token
pub only_token : (text : List ℕ) → is_without 32 text ≡ true → tokens_of text ≡ text ∷ []
only_token [] h = refl
only_token (c ∷ cs) h = by (c == 32) (and_parts (not (c == 32)) (is_without 32 cs) h).0 (only_token cs (and_parts (not (c == 32)) (is_without 32 cs) h).1)
  where
    by : (b : Bool) → not b ≡ true → tokens_of cs ≡ cs ∷ [] → cond b ([] ∷ tokens_of cs) (onto_first c (tokens_of cs)) ≡ (c ∷ cs) ∷ []
    by true h more = absurd cc
    by false h more = ap (onto_first c) more

-- a text has a token
some_token : (text : List ℕ) → 1 ≤ length (tokens_of text)
some_token [] = omega arith
some_token (c ∷ cs) = by (c == 32) (tokens_of cs)
  where
    onto : (ts : List (List ℕ)) → 1 ≤ length (onto_first c ts)
    onto [] = omega arith
    onto (t ∷ ts) = omega arith

    by : (b : Bool) (ts : List (List ℕ)) → 1 ≤ length (cond b ([] ∷ ts) (onto_first c ts))
    by true ts = omega arith
    by false ts = onto ts

-- more are left
pub more_left : {R : Type 0} (now : R → List ℕ) (tokens : List R) (rest line : List ℕ) → map now tokens ++ tokens_of rest ≡ tokens_of line
    → 18 ≤ length tokens → 18 < length (tokens_of line)
more_left now tokens rest line so_far long =
    omega (arith, ap length so_far, length-append (map now tokens) (tokens_of rest), length-map tokens now, some_token rest, long)

-- the text of a token
pub text-at : {R : Type 0} (now : R → List ℕ) (tokens : List R) (i : ℕ) (d : R) → i < length tokens → get_or (map now tokens) i [] ≡ now (get_or tokens i d)
text-at now [] i d there = absurd (omega arith)
text-at now (t ∷ ts) zero d there = refl
text-at now (t ∷ ts) (suc i) d there = text-at now ts i d (omega arith)

-- one token alone
pub single : {R : Type 0} (now : R → List ℕ) (tokens : List R) (d : R) → 1 ≤ length tokens → length tokens < 2 → map now tokens ≡ now (get_or tokens 0 d) ∷ []
single now [] d some few = absurd (omega arith)
single now (t ∷ []) d some few = refl
single now (t ∷ u ∷ us) d some few = absurd (omega arith)

-- what is left behind so many tokens
pub left_behind : {R : Type 0} (n : ℕ) (tokens : List R) → take (length tokens - n) (drop n tokens) ≡ drop n tokens
left_behind n tokens = take_all (length tokens - n) (drop n tokens) (omega (arith, length-drop n tokens))

-- a token and those behind it
pub first_at : {R : Type 0} (now : R → List ℕ) (tokens : List R) (d : R) → 1 ≤ length tokens
    → map now tokens ≡ now (get_or tokens 0 d) ∷ map now (take (length tokens - 1) (drop 1 tokens))
first_at {R} now tokens d some = by tokens some ∙ ap (λ (z : List R). now (get_or tokens 0 d) ∷ map now z) (sym (left_behind 1 tokens))
  where
    by : (ts : List R) → 1 ≤ length ts → map now ts ≡ now (get_or ts 0 d) ∷ map now (drop 1 ts)
    by [] some = absurd (omega arith)
    by (t ∷ ts) some = refl

-- two tokens and those behind them
pub first_two : {R : Type 0} (now : R → List ℕ) (tokens : List R) (d e : R) → 2 ≤ length tokens
    → map now tokens ≡ now (get_or tokens 0 d) ∷ now (get_or tokens 1 e) ∷ map now (take (length tokens - 2) (drop 2 tokens))
first_two {R} now tokens d e some = by tokens some ∙ ap (λ (z : List R). now (get_or tokens 0 d) ∷ now (get_or tokens 1 e) ∷ map now z) (sym (left_behind 2 tokens))
  where
    by : (ts : List R) → 2 ≤ length ts → map now ts ≡ now (get_or ts 0 d) ∷ now (get_or ts 1 e) ∷ map now (drop 2 ts)
    by [] some = absurd (omega arith)
    by (t ∷ []) some = absurd (omega arith)
    by (t ∷ u ∷ us) some = refl
