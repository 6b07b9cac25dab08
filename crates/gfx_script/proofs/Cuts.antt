-- Where a text is cut: at its first line feed, and around its first token.
use Rattle.std.proofs.Common.{◌≡◌, ℕ, zero, suc, ◌+◌, ◌<◌, ◌≤◌, ◌==◌, nat_lt, not, Bool, true, false, cond, List, [], ◌∷◌, filter, length, take, drop, Some, None, refl, sym, ap, subst, ◌∙◌, arith}
use Rattle.std.specs.List.{position_or_len, position, slice_split, onto_first}
use Rattle.std.proofs.lemmas.Bool.Decides.{nat_tests}
use Rattle.std.proofs.lemmas.List.{length-drop, length-take}
use Rattle.std.proofs.lemmas.List.Splits.{slice_split-cons_yes}
use Rattle.gfx_script_model.specs.Statements.{is_empty, lines_of, tokens_of}
use Rattle.gfx_script.specs.Cuts.{IsFirstLine, IsFirstToken}

-- ---- places

take_one : (k c : ℕ) (cs : List ℕ) → take (1 + k) (c ∷ cs) ≡ c ∷ take k cs
take_one k c cs = let e : 1 + k ≡ suc k = omega arith in ap (λ n. take n (c ∷ cs)) e

drop_one : (k c : ℕ) (cs : List ℕ) → drop (1 + k) (c ∷ cs) ≡ drop k cs
drop_one k c cs = let e : 1 + k ≡ suc k = omega arith in ap (λ n. drop n (c ∷ cs)) e

drop_two : (k c : ℕ) (cs : List ℕ) → drop (1 + k + 1) (c ∷ cs) ≡ drop (k + 1) cs
drop_two k c cs = let e : 1 + k + 1 ≡ suc (k + 1) = omega arith in ap (λ n. drop n (c ∷ cs)) e

-- where a position is found
found : {X : Type 0} (p : X → Bool) (xs : List X) (i : ℕ) → position p xs ≡ Some i → (position_or_len p xs ≡ i) × (i < length xs)
found p xs i e = by (nat_lt (position_or_len p xs) (length xs)) refl e
  where
    by : (b : Bool) → nat_lt (position_or_len p xs) (length xs) ≡ b → cond b (Some (position_or_len p xs)) None ≡ Some i → (position_or_len p xs ≡ i) × (i < length xs)
    by true t h = let same : position_or_len p xs ≡ i = cc in (same, grind (arith, nat_tests, t, same))
    by false t h = absurd cc

not_found : {X : Type 0} (p : X → Bool) (xs : List X) → position p xs ≡ None → length xs ≤ position_or_len p xs
not_found p xs e = by (nat_lt (position_or_len p xs) (length xs)) refl e
  where
    by : (b : Bool) → nat_lt (position_or_len p xs) (length xs) ≡ b → cond b (Some (position_or_len p xs)) None ≡ None → length xs ≤ position_or_len p xs
    by true t h = absurd cc
    by false t h = grind (arith, nat_tests, t)

-- ---- lines

-- how many bytes are before the first line feed
abbrev to_feed : List ℕ → ℕ
to_feed text = position_or_len (λ c. c == 10) text

feed_at : (text : List ℕ) → to_feed text < length text → lines_of text ≡ take (to_feed text) text ∷ lines_of (drop (to_feed text + 1) text)
feed_at [] h = absurd (omega arith)
feed_at (c ∷ cs) h = by (c == 10) h (feed_at cs)
  where
    by : (b : Bool) → cond (not b) (1 + to_feed cs) 0 < length (c ∷ cs)
        → (to_feed cs < length cs → lines_of cs ≡ take (to_feed cs) cs ∷ lines_of (drop (to_feed cs + 1) cs))
        → cond b ([] ∷ lines_of cs) (onto_first c (lines_of cs))
        ≡ take (cond (not b) (1 + to_feed cs) 0) (c ∷ cs) ∷ lines_of (drop (cond (not b) (1 + to_feed cs) 0 + 1) (c ∷ cs))
    by true l more = refl
    by false l more =
        ap (onto_first c) (more (omega arith))
        ∙ ap (λ (z : List ℕ). z ∷ lines_of (drop (to_feed cs + 1) cs)) (sym (take_one (to_feed cs) c cs))
        ∙ ap (λ (z : List ℕ). take (1 + to_feed cs) (c ∷ cs) ∷ lines_of z) (sym (drop_two (to_feed cs) c cs))

feed_none : (c : ℕ) (cs : List ℕ) → length (c ∷ cs) ≤ to_feed (c ∷ cs) → lines_of (c ∷ cs) ≡ (c ∷ cs) ∷ []
feed_none c [] h = by (c == 10) [] h (λ l. refl)
  where
    by : (b : Bool) (ds : List ℕ) → length (c ∷ ds) ≤ cond (not b) (1 + to_feed ds) 0 → (length ds ≤ to_feed ds → onto_first c (lines_of ds) ≡ (c ∷ ds) ∷ [])
        → cond b ([] ∷ lines_of ds) (onto_first c (lines_of ds)) ≡ (c ∷ ds) ∷ []
    by true ds l more = absurd (omega arith)
    by false ds l more = more (omega arith)
feed_none c (d ∷ ds) h = by (c == 10) (d ∷ ds) h (λ l. ap (onto_first c) (feed_none d ds l))
  where
    by : (b : Bool) (es : List ℕ) → length (c ∷ es) ≤ cond (not b) (1 + to_feed es) 0 → (length es ≤ to_feed es → onto_first c (lines_of es) ≡ (c ∷ es) ∷ [])
        → cond b ([] ∷ lines_of es) (onto_first c (lines_of es)) ≡ (c ∷ es) ∷ []
    by true es l more = absurd (omega arith)
    by false es l more = more (omega arith)

-- the line that ends at a line feed
pub line_at : (text : List ℕ) (i : ℕ) → position (λ c. c == 10) text ≡ Some i → IsFirstLine text (take i text) (drop (i + 1) text)
line_at text i e =
    let at = found (λ c. c == 10) text i e in
    let cut = feed_at text (omega (arith, at.0, at.1)) in
    record {
      lines = cut ∙ (λ j. take (at.0 j) text ∷ lines_of (drop (at.0 j + 1) text));
      through = omega (arith, at.1, length-take i text, length-drop (i + 1) text);
    }

-- the line that ends with the text
pub line_last : (text : List ℕ) → position (λ c. c == 10) text ≡ None → 0 < length text → IsFirstLine text text []
line_last [] e some = absurd (omega arith)
line_last (c ∷ cs) e some = record { lines = feed_none c cs (not_found (λ c. c == 10) (c ∷ cs) e); through = omega arith }

-- ---- tokens

-- a space at the start says nothing
space_first : (c : ℕ) (cs : List ℕ) → (c == 32) ≡ true → tokens_of (c ∷ cs) ≡ tokens_of cs
space_first c cs e = ap (filter (λ t. not (is_empty t))) (slice_split-cons_yes (λ (d : ℕ). d == 32) c cs e)

-- how many spaces are first
abbrev to_word : List ℕ → ℕ
to_word text = position_or_len (λ c. not (c == 32)) text

spaces_first : (text : List ℕ) → tokens_of text ≡ tokens_of (drop (to_word text) text)
spaces_first [] = refl
spaces_first (c ∷ cs) = by (c == 32) refl (spaces_first cs)
  where
    by : (b : Bool) → (c == 32) ≡ b → tokens_of cs ≡ tokens_of (drop (to_word cs) cs) → tokens_of (c ∷ cs) ≡ tokens_of (drop (cond (not (not b)) (1 + to_word cs) 0) (c ∷ cs))
    by true e more = space_first c cs e ∙ more ∙ ap tokens_of (sym (drop_one (to_word cs) c cs))
    by false e more = refl

no_words : (text : List ℕ) → length text ≤ to_word text → tokens_of text ≡ []
no_words text h = spaces_first text ∙ ap tokens_of (nothing text (to_word text) h)
  where
    nothing : (xs : List ℕ) (n : ℕ) → length xs ≤ n → drop n xs ≡ []
    nothing [] n l = none n
      where
        none : (k : ℕ) → drop k (let e : List ℕ = [] in e) ≡ []
        none zero = refl
        none (suc k) = refl
    nothing (x ∷ xs) zero l = absurd (omega arith)
    nothing (x ∷ xs) (suc n) l = nothing xs n (omega arith)

-- how many bytes are before the first space
abbrev to_space : List ℕ → ℕ
to_space text = position_or_len (λ c. c == 32) text

split_at : (text : List ℕ) → to_space text < length text
    → slice_split (λ c. c == 32) text ≡ take (to_space text) text ∷ slice_split (λ c. c == 32) (drop (to_space text + 1) text)
split_at [] h = absurd (omega arith)
split_at (c ∷ cs) h = by (c == 32) h (split_at cs)
  where
    by : (b : Bool) → cond (not b) (1 + to_space cs) 0 < length (c ∷ cs)
        → (to_space cs < length cs → slice_split (λ c. c == 32) cs ≡ take (to_space cs) cs ∷ slice_split (λ c. c == 32) (drop (to_space cs + 1) cs))
        → cond b ([] ∷ slice_split (λ c. c == 32) cs) (onto_first c (slice_split (λ c. c == 32) cs))
        ≡ take (cond (not b) (1 + to_space cs) 0) (c ∷ cs) ∷ slice_split (λ c. c == 32) (drop (cond (not b) (1 + to_space cs) 0 + 1) (c ∷ cs))
    by true l more = refl
    by false l more =
        ap (onto_first c) (more (omega arith))
        ∙ ap (λ (z : List ℕ). z ∷ slice_split (λ c. c == 32) (drop (to_space cs + 1) cs)) (sym (take_one (to_space cs) c cs))
        ∙ ap (λ (z : List ℕ). take (1 + to_space cs) (c ∷ cs) ∷ slice_split (λ c. c == 32) z) (sym (drop_two (to_space cs) c cs))

split_none : (text : List ℕ) → length text ≤ to_space text → slice_split (λ c. c == 32) text ≡ text ∷ []
split_none [] h = refl
split_none (c ∷ cs) h = by (c == 32) h (split_none cs)
  where
    by : (b : Bool) → length (c ∷ cs) ≤ cond (not b) (1 + to_space cs) 0 → (length cs ≤ to_space cs → slice_split (λ c. c == 32) cs ≡ cs ∷ [])
        → cond b ([] ∷ slice_split (λ c. c == 32) cs) (onto_first c (slice_split (λ c. c == 32) cs)) ≡ (c ∷ cs) ∷ []
    by true l more = absurd (omega arith)
    by false l more = ap (onto_first c) (more (omega arith))

-- a word at the start is the first token
word_first : (text : List ℕ) (e : ℕ) → 1 ≤ e → e ≡ to_space text → e < length text → tokens_of text ≡ take e text ∷ tokens_of (drop (e + 1) text)
word_first [] e one is l = absurd (omega arith)
word_first (c ∷ cs) zero one is l = absurd (omega arith)
word_first (c ∷ cs) (suc e) one is l =
    let back = sym is in
    ap (filter (λ t. not (is_empty t))) (split_at (c ∷ cs) (omega (arith, is)) ∙ (λ j. take (back j) (c ∷ cs) ∷ slice_split (λ d. d == 32) (drop (back j + 1) (c ∷ cs))))

-- a word that goes on to the end is the last token
word_last : (c : ℕ) (cs : List ℕ) → length (c ∷ cs) ≤ to_space (c ∷ cs) → tokens_of (c ∷ cs) ≡ (c ∷ cs) ∷ []
word_last c cs h = ap (filter (λ t. not (is_empty t))) (split_none (c ∷ cs) h)

-- the text behind the spaces at the start begins with another byte
pub record BeginsWord (text : List ℕ) : Type 0 where
  pub first : ℕ
  pub behind : List ℕ
  pub is : text ≡ first ∷ behind
  pub no_space : (first == 32) ≡ false

word_begins : (line : List ℕ) → to_word line < length line → BeginsWord (drop (to_word line) line)
word_begins [] h = absurd (omega arith)
word_begins (c ∷ cs) h = by (c == 32) refl h (word_begins cs)
  where
    by : (b : Bool) → (c == 32) ≡ b → cond (not (not b)) (1 + to_word cs) 0 < length (c ∷ cs) → (to_word cs < length cs → BeginsWord (drop (to_word cs) cs))
        → BeginsWord (drop (cond (not (not b)) (1 + to_word cs) 0) (c ∷ cs))
    by true e l more = subst BeginsWord (sym (drop_one (to_word cs) c cs)) (more (omega arith))
    by false e l more = record { first = c; behind = cs; is = refl; no_space = e }

-- a word at the start takes a byte at least
some_byte : (text : List ℕ) → BeginsWord text → 1 ≤ to_space text
some_byte text w = subst (λ (z : List ℕ). 1 ≤ to_space z) (sym w.is) (by (w.first == 32) w.no_space)
  where
    by : (b : Bool) → b ≡ false → 1 ≤ cond (not b) (1 + to_space w.behind) 0
    by true e = absurd cc
    by false e = omega arith

-- the line from its first word on
from_word : (line : List ℕ) (s : ℕ) → position (λ c. not (c == 32)) line ≡ Some s → (tokens_of line ≡ tokens_of (drop s line)) × BeginsWord (drop s line) × (s < length line)
from_word line s h =
    let at = found (λ c. not (c == 32)) line s h in
    (spaces_first line ∙ ap (λ n. tokens_of (drop n line)) at.0, subst (λ n. BeginsWord (drop n line)) at.0 (word_begins line (omega (arith, at.0, at.1))), at.1)

-- the first token, which ends at a space
pub token_at : (line : List ℕ) (s e : ℕ) → position (λ c. not (c == 32)) line ≡ Some s → position (λ c. c == 32) (drop s line) ≡ Some e
    → IsFirstToken line (take e (drop s line)) (drop (e + 1) (drop s line))
token_at line s e h k =
    let w = from_word line s h in
    let at = found (λ c. c == 32) (drop s line) e k in
    record {
      tokens = w.0 ∙ word_first (drop s line) e (omega (arith, some_byte (drop s line) w.1, at.0)) (sym at.0) at.1;
      less = omega (arith, w.2, at.1, length-drop s line, length-drop (e + 1) (drop s line));
    }

-- the only token
pub token_last : (line : List ℕ) (s : ℕ) → position (λ c. not (c == 32)) line ≡ Some s → position (λ c. c == 32) (drop s line) ≡ None
    → IsFirstToken line (drop s line) []
token_last line s h k =
    let w = from_word line s h in
    let long = not_found (λ c. c == 32) (drop s line) k in
    let last : tokens_of (drop s line) ≡ drop s line ∷ [] =
    ap tokens_of w.1.is ∙ word_last w.1.first w.1.behind (subst (λ (z : List ℕ). length z ≤ to_space z) w.1.is long) ∙ ap (λ (z : List ℕ). z ∷ []) (sym w.1.is) in
    record { tokens = w.0 ∙ last; less = omega (arith, w.2) }

-- no token
pub no_token : (line : List ℕ) → position (λ c. not (c == 32)) line ≡ None → tokens_of line ≡ []
no_token line h = no_words line (not_found (λ c. not (c == 32)) line h)
