-- The lines of a text that end with a line feed.
use Rattle.std.proofs.Common.{◌≡◌, ℕ, suc, ◌+◌, ◌≤◌, ◌==◌, nat_eq, not, true, false, List, [], ◌∷◌, ◌++◌, length, flat_map, sym, refl, ap, subst, ◌∙◌, arith, append_assoc}
use Rattle.std.specs.List.{AllByRecursion}
use Rattle.std.proofs.lemmas.Bool.{and_parts, not-true, cond-false}
use Rattle.gfx_model.specs.Text.{line}
use Rattle.gfx_text_grammar.specs.Splits.{is_without}
use Rattle.gfx_listing_law.specs.Fronts.{onto_first, ended_lines}

-- a byte that is no line feed
ended-byte : (c : ℕ) (cs : List ℕ) → nat_eq c 10 ≡ false → ended_lines (c ∷ cs) ≡ onto_first c (ended_lines cs)
unfolding ended_lines
ended-byte c cs other = cond-false _ _ _ other

-- a whole line before it
pub ended-line : (l rest : List ℕ) → is_without 10 l ≡ true → ended_lines (line l ++ rest) ≡ l ∷ ended_lines rest
unfolding ended_lines
ended-line [] rest none = refl
ended-line (c ∷ l) rest none =
    let parts = and_parts (not (c == 10)) (is_without 10 l) none in
    let other : nat_eq c 10 ≡ false = not-true _ parts.0 in
    cond-false _ _ _ other ∙ ap (onto_first c) (ended-line l rest parts.1)

-- whole lines before it
pub ended-lines : (ls : List (List ℕ)) (rest : List ℕ) → AllByRecursion (λ l. is_without 10 l ≡ true) ls → ended_lines (flat_map line ls ++ rest) ≡ ls ++ ended_lines rest
ended-lines [] rest all = refl
ended-lines (l ∷ ls) rest all =
    ap ended_lines (append_assoc (line l) (flat_map line ls) rest) ∙ ended-line l (flat_map line ls ++ rest) all.0
    ∙ ap (λ (z : List (List ℕ)). l ∷ z) (ended-lines ls rest all.1)

-- none without a line feed
pub ended-none : (rest : List ℕ) → is_without 10 rest ≡ true → ended_lines rest ≡ []
unfolding ended_lines
ended-none [] none = refl
ended-none (c ∷ rest) none =
    let parts = and_parts (not (c == 10)) (is_without 10 rest) none in
    let other : nat_eq c 10 ≡ false = not-true _ parts.0 in
    cond-false _ _ _ other ∙ ap (onto_first c) (ended-none rest parts.1)

-- none, or a first one of at least so many bytes
abbrev pub BeginsLong : ℕ → List (List ℕ) → Type 0
BeginsLong n [] = Unit {0}
BeginsLong n (l ∷ ls) = n ≤ length l

long-onto : (c n : ℕ) (ls : List (List ℕ)) → BeginsLong n ls → BeginsLong (n + 1) (onto_first c ls)
long-onto c n [] long = tt
long-onto c n (l ∷ ls) long = omega (arith, long)

long-zero : (ls : List (List ℕ)) → BeginsLong 0 ls
long-zero [] = tt
long-zero (l ∷ ls) = omega arith

-- so many bytes without a line feed first
pub ended-long : (next more : List ℕ) → is_without 10 next ≡ true → BeginsLong (length next) (ended_lines (next ++ more))
unfolding ended_lines
ended-long [] more none = long-zero (ended_lines more)
ended-long (c ∷ next) more none =
    let parts = and_parts (not (c == 10)) (is_without 10 next) none in
    let other : nat_eq c 10 ≡ false = not-true _ parts.0 in
    longer (length next) (ended_lines (c ∷ (next ++ more))) (subst (BeginsLong (length next + 1)) (sym (ended-byte c (next ++ more) other)) (long-onto c (length next) (ended_lines (next ++ more)) (ended-long next more parts.1)))
  where
    longer : (n : ℕ) (ls : List (List ℕ)) → BeginsLong (n + 1) ls → BeginsLong (suc n) ls
    longer n [] long = tt
    longer n (l ∷ ls) long = omega (arith, long)
