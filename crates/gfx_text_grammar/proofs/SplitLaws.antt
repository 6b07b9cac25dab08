-- Laws of texts that are cut at a byte.
use Rattle.std.proofs.Common.{◌≡◌, ℕ, ◌==◌, not, Bool, true, false, cond, List, [], ◌∷◌, ◌++◌, map, flat_map, Option, Some, refl, ap, subst, ◌∙◌, arith}
use Rattle.std.specs.List.{AllByRecursion, onto_first, join_with_byte}
use Rattle.std.proofs.lemmas.Bool.Decides.{nat_tests}
use Rattle.std.proofs.lemmas.Bool.{eqb-true, and_parts, and_from}
use Rattle.std.proofs.lemmas.List.Splits.{join_with_byte-slice_split}
use Rattle.std.proofs.lemmas.List.Folds.{list_all-append}
use Rattle.gfx_model.specs.Text.{line}
use Rattle.gfx_grammar.specs.Reading.{◌>>=◌}
use Rattle.gfx_grammar.proofs.NumberLaws.{bind_some, some_is}
use Rattle.gfx_text_grammar.specs.Splits.{is_without, tokens_of, onto_line, whole_lines, each_read}
use Rattle.gfx_text_grammar.proofs.Graphic.{is_graphic, are_graphic}

graphic_is_not : (c d : ℕ) → c ≡ 32 → is_graphic d ≡ true → not (d == c) ≡ true
graphic_is_not c d is h = grind (arith, nat_tests, h, is)

pub no_space : (text : List ℕ) → are_graphic text ≡ true → is_without 32 text ≡ true
no_space [] h = refl
no_space (c ∷ cs) h = let p = and_parts (is_graphic c) (are_graphic cs) h in and_from _ _ (graphic_is_not 32 c refl p.0) (no_space cs p.1)

-- ---- tokens

pub split-token : (text rest : List ℕ) → is_without 32 text ≡ true → tokens_of (text ++ 32 ∷ rest) ≡ text ∷ tokens_of rest
split-token [] rest h = refl
split-token (c ∷ cs) rest h = by (c == 32) (and_parts (not (c == 32)) (is_without 32 cs) h).0 (split-token cs rest (and_parts (not (c == 32)) (is_without 32 cs) h).1)
  where
    by : (b : Bool) → not b ≡ true → tokens_of (cs ++ 32 ∷ rest) ≡ cs ∷ tokens_of rest
        → cond b ([] ∷ tokens_of (cs ++ 32 ∷ rest)) (onto_first c (tokens_of (cs ++ 32 ∷ rest))) ≡ (c ∷ cs) ∷ tokens_of rest
    by true h more = absurd cc
    by false h more = ap (onto_first c) more

split-last : (text : List ℕ) → is_without 32 text ≡ true → tokens_of text ≡ text ∷ []
split-last [] h = refl
split-last (c ∷ cs) h = by (c == 32) (and_parts (not (c == 32)) (is_without 32 cs) h).0 (split-last cs (and_parts (not (c == 32)) (is_without 32 cs) h).1)
  where
    by : (b : Bool) → not b ≡ true → tokens_of cs ≡ cs ∷ [] → cond b ([] ∷ tokens_of cs) (onto_first c (tokens_of cs)) ≡ (c ∷ cs) ∷ []
    by true h more = absurd cc
    by false h more = ap (onto_first c) more

-- tokens are read again
pub tokens_again : (t : List ℕ) (ts : List (List ℕ)) → AllByRecursion (λ u. are_graphic u ≡ true) (t ∷ ts) → tokens_of (join_with_byte 32 (t ∷ ts)) ≡ t ∷ ts
tokens_again t [] h = split-last t (no_space t h.0)
tokens_again t (u ∷ us) h = split-token t (join_with_byte 32 (u ∷ us)) (no_space t h.0) ∙ ap (λ (z : List (List ℕ)). t ∷ z) (tokens_again u us h.1)

-- and are the line
pub tokens_takes : (text : List ℕ) → join_with_byte 32 (tokens_of text) ≡ text
tokens_takes text = join_with_byte-slice_split 32 text

-- ---- lines

pub lines_takes : (text : List ℕ) (ls : List (List ℕ)) → whole_lines text ≡ Some ls → text ≡ flat_map line ls
unfolding whole_lines
lines_takes [] ls is = ap (λ (z : List (List ℕ)). flat_map line z) (some_is _ _ is)
lines_takes (c ∷ cs) ls is =
    let a = bind_some (whole_lines cs) (λ ls. cond (c == 10) (Some ([] ∷ ls)) (onto_line c ls)) ls is in
    onto a.0 (lines_takes cs a.0 a.1) (c == 10) refl a.2
  where
    later : (l : List ℕ) (ms : List (List ℕ)) → c ∷ flat_map line (l ∷ ms) ≡ flat_map line ((c ∷ l) ∷ ms)
    later l ms = refl

    onto_some : (ms ls : List (List ℕ)) → onto_line c ms ≡ Some ls → c ∷ flat_map line ms ≡ flat_map line ls
    onto_some [] ls e = absurd cc
    onto_some (l ∷ ms) ls e = later l ms ∙ ap (λ (z : List (List ℕ)). flat_map line z) (some_is _ _ e)

    onto : (ms : List (List ℕ)) → cs ≡ flat_map line ms → (b : Bool) → (c == 10) ≡ b → cond b (Some ([] ∷ ms)) (onto_line c ms) ≡ Some ls → c ∷ cs ≡ flat_map line ls
    onto ms same true e q = ap (λ n. n ∷ cs) (eqb-true c 10 e) ∙ ap (λ (z : List ℕ). 10 ∷ z) same ∙ ap (λ (z : List (List ℕ)). flat_map line z) (some_is ([] ∷ ms) ls q)
    onto ms same false e q = ap (λ (z : List ℕ). c ∷ z) same ∙ onto_some ms ls q

line_again : (l rest : List ℕ) (ls : List (List ℕ)) → is_without 10 l ≡ true → whole_lines rest ≡ Some ls → whole_lines (line l ++ rest) ≡ Some (l ∷ ls)
unfolding whole_lines
line_again [] rest ls h more = ap (λ (o : Option (List (List ℕ))). o >>= λ ls. Some ([] ∷ ls)) more
line_again (c ∷ cs) rest ls h more =
    ap (λ (o : Option (List (List ℕ))). o >>= λ ls. cond (c == 10) (Some ([] ∷ ls)) (onto_line c ls)) (line_again cs rest ls (and_parts (not (c == 10)) (is_without 10 cs) h).1 more)
    ∙ by (c == 10) (and_parts (not (c == 10)) (is_without 10 cs) h).0
  where
    by : (b : Bool) → not b ≡ true → cond b (Some ([] ∷ cs ∷ ls)) (Some ((c ∷ cs) ∷ ls)) ≡ Some ((c ∷ cs) ∷ ls)
    by true h = absurd cc
    by false h = refl

pub lines_again : (ls : List (List ℕ)) → AllByRecursion (λ l. is_without 10 l ≡ true) ls → whole_lines (flat_map line ls) ≡ Some ls
unfolding whole_lines
lines_again [] h = refl
lines_again (l ∷ ls) h = line_again l (flat_map line ls) ls h.0 (lines_again ls h.1)

-- ---- each line

pub each_takes : {X : Type 0} (read : List ℕ → Option X) (show : X → List ℕ) (P : X → Type 0)
    → ((t : List ℕ) (x : X) → read t ≡ Some x → (t ≡ show x) × P x)
    → (ts : List (List ℕ)) (xs : List X) → each_read read ts ≡ Some xs → (ts ≡ map show xs) × AllByRecursion P xs
unfolding each_read
each_takes {X} read show P one [] xs is = subst (λ (z : List X). ([] ≡ map show z) × AllByRecursion P z) (some_is _ _ is) (refl, tt)
each_takes {X} read show P one (t ∷ ts) xs is =
    let a = bind_some (read t) (λ x. each_read read ts >>= λ xs. Some (x ∷ xs)) xs is in
    let b = bind_some (each_read read ts) (λ xs. Some (a.0 ∷ xs)) xs a.2 in
    let h = one t a.0 a.1 in
    let k = each_takes read show P one ts b.0 b.1 in
    subst (λ (z : List X). (t ∷ ts ≡ map show z) × AllByRecursion P z) (some_is (a.0 ∷ b.0) xs b.2)
    (ap (λ (z : List ℕ). z ∷ ts) h.0 ∙ ap (λ (z : List (List ℕ)). show a.0 ∷ z) k.0, (h.1, k.1))

pub each_again : {X : Type 0} (read : List ℕ → Option X) (show : X → List ℕ) (P : X → Type 0)
    → ((x : X) → P x → read (show x) ≡ Some x)
    → (xs : List X) → AllByRecursion P xs → each_read read (map show xs) ≡ Some xs
unfolding each_read
each_again read show P one [] h = refl
each_again {X} read show P one (x ∷ xs) h =
    ap (λ (o : Option X). o >>= λ v. each_read read (map show xs) >>= λ vs. Some (v ∷ vs)) (one x h.0)
    ∙ ap (λ (o : Option (List X)). o >>= λ vs. Some (x ∷ vs)) (each_again read show P one xs h.1)

-- ---- no line feed

graphic_no_feed : (c : ℕ) → is_graphic c ≡ true → not (c == 10) ≡ true
graphic_no_feed c h = grind (arith, nat_tests, h)

pub no_feed : (text : List ℕ) → are_graphic text ≡ true → is_without 10 text ≡ true
no_feed [] h = refl
no_feed (c ∷ cs) h = let p = and_parts (is_graphic c) (are_graphic cs) h in and_from _ _ (graphic_no_feed c p.0) (no_feed cs p.1)

pub without-append : (c : ℕ) (a b : List ℕ) → is_without c a ≡ true → is_without c b ≡ true → is_without c (a ++ b) ≡ true
without-append c a b p q = list_all-append (λ d. not (d == c)) a b ∙ and_from _ _ p q

pub join_no_feed : (ts : List (List ℕ)) → AllByRecursion (λ t. are_graphic t ≡ true) ts → is_without 10 (join_with_byte 32 ts) ≡ true
join_no_feed [] h = refl
join_no_feed (t ∷ []) h = no_feed t h.0
join_no_feed (t ∷ u ∷ us) h = without-append 10 t (32 ∷ join_with_byte 32 (u ∷ us)) (no_feed t h.0) (join_no_feed (u ∷ us) h.1)
