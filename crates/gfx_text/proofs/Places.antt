-- The rows of names.
use Rattle.std.proofs.Common.{◌≡◌, ℕ, suc, ◌+◌, ◌<◌, ◌≤◌, nat_eq, nat_lt, ◌&&◌, not, Bool, true, false, cond, List, [], ◌∷◌, length, map, Option, Some, None, refl, sym, ap, ◌∙◌, arith}
use Rattle.std.specs.Prelude.{position, IfSome}
use Rattle.std.specs.List.{prefix_len}
use Rattle.std.specs.Cmp.Lexicographic.{pointwise}
use Rattle.std.proofs.lemmas.List.{length-map}
use Rattle.std.proofs.lemmas.Bool.{cond-true, cond-false, lt-ltb, ltb-true, ltb-false, le-ltb, eq-eqb, ne_eqb}
use Rattle.gfx_model.specs.Checks.{same_list}
use Rattle.gfx_grammar.specs.Reading.{◌>>=◌}
use Rattle.gfx_grammar.proofs.NumberLaws.{some_is}
use Rattle.gfx_text_grammar.specs.FieldReading.{Left}
use Rattle.gfx_text_grammar.specs.Rows.{Rows, by_name}
use Rattle.gfx_text.specs.Places.{row_at, place_of}

same_bytes : (xs ys : List ℕ) → pointwise nat_eq xs ys ≡ same_list xs ys
same_bytes [] [] = refl
same_bytes [] (y ∷ ys) = refl
same_bytes (x ∷ xs) [] = refl
same_bytes (x ∷ xs) (y ∷ ys) = ap (λ b. nat_eq x y && b) (same_bytes xs ys)

-- how many names are before this one
abbrev before : {R : Type 0} → (R → List ℕ) → List ℕ → List R → ℕ
before now name names = prefix_len (λ n. not (pointwise nat_eq (now n) name)) names

-- the position of a name before n others, of which so many are before it
abbrev found : (is : Bool) (n len : ℕ) → Option ℕ
found is n len = cond (nat_lt (cond (not is) (1 + len) 0) (suc n)) (Some (cond (not is) (1 + len) 0)) None

found_first : (n len : ℕ) → found true n len ≡ Some 0
found_first n len = cond-true (nat_lt 0 (suc n)) (Some 0) None (lt-ltb 0 (suc n) (omega arith))

found_later : (n len : ℕ) (below : Bool) → nat_lt len n ≡ below → found false n len ≡ (cond below (Some len) None >>= λ i. Some (i + 1))
found_later n len true e =
    let below : len < n = ltb-true _ _ e in
    let more : 1 + len < suc n = omega (arith, below) in
    let same : 1 + len ≡ len + 1 = omega arith in
    cond-true (nat_lt (1 + len) (suc n)) (Some (1 + len)) None (lt-ltb (1 + len) (suc n) more) ∙ ap Some same
found_later n len false e =
    let past : n ≤ len = ltb-false _ _ e in
    let more : suc n ≤ 1 + len = omega (arith, past) in
    cond-false (nat_lt (1 + len) (suc n)) (Some (1 + len)) None (le-ltb (1 + len) (suc n) more)

-- the first position is the place
pub place_is : {R : Type 0} (now : R → List ℕ) (name : List ℕ) (names : List R) → position (λ n. pointwise nat_eq (now n) name) names ≡ place_of (map now names) name
place_is now name [] = refl
place_is {R} now name (n ∷ names) =
    ap (λ b. found b (length names) (before now name names)) (same_bytes (now n) name) ∙ by (same_list (now n) name) (place_is now name names)
  where
    by : (b : Bool) → cond (nat_lt (before now name names) (length names)) (Some (before now name names)) None ≡ place_of (map now names) name
        → found b (length names) (before now name names) ≡ cond b (Some 0) (place_of (map now names) name >>= λ i. Some (i + 1))
    by true h = found_first (length names) (before now name names)
    by false h = found_later (length names) (before now name names) _ refl ∙ ap (λ (o : Option ℕ). o >>= λ i. Some (i + 1)) h

-- and is below the end
place_below : (names : List (List ℕ)) (name : List ℕ) (i : ℕ) → place_of names name ≡ Some i → i < length names
place_below [] name i is = absurd cc
place_below (n ∷ names) name i is = by (λ j e. place_below names name j e) (same_list n name) (place_of names name) refl is
  where
    by : ((j : ℕ) → place_of names name ≡ Some j → j < length names) → (b : Bool) (o : Option ℕ) → place_of names name ≡ o → cond b (Some 0) (o >>= λ i. Some (i + 1)) ≡ Some i → i < length (n ∷ names)
    by more true o e h = let zero : 0 ≡ i = some_is 0 i h in omega (arith, zero)
    by more false None e h = absurd cc
    by more false (Some j) e h =
        let below : j < length names = more j e in
        let next : j + 1 ≡ i = some_is (j + 1) i h in omega (arith, below, next)

place_within : {R : Type 0} (now : R → List ℕ) (names : List R) (name : List ℕ) (i : ℕ) → place_of (map now names) name ≡ Some i → i < length names
place_within now names name i is = let below = place_below (map now names) name i is in omega (arith, below, length-map names now)

pub place_bound : {R : Type 0} (now : R → List ℕ) (names : List R) (name : List ℕ) (o : Option ℕ) → o ≡ place_of (map now names) name
    → IfSome o (λ i. i < length names)
place_bound now names name None is = tt
place_bound now names name (Some i) is = place_within now names name i (sym is)

-- what the row of a name reads
pub by_place : (rows : Rows) (first : ℕ) (name : List ℕ) (left : Left)
    → by_name rows name left ≡ (place_of (map (λ r. r.0) rows) name >>= λ i. row_at first rows (i + first) left)
unfolding by_name row_at
by_place [] first name left = refl
by_place (r ∷ rows) first name left = by (same_list r.0 name) (by_place rows (first + 1) name left)
  where
    later : (o : Option ℕ) → (o >>= λ i. row_at (first + 1) rows (i + (first + 1)) left) ≡ ((o >>= λ i. Some (i + 1)) >>= λ i. row_at first (r ∷ rows) (i + first) left)
    later None = refl
    later (Some i) =
        let same : i + (first + 1) ≡ i + 1 + first = omega arith in
        ap (λ n. row_at (first + 1) rows n left) same
        ∙ sym (cond-false (nat_eq first (i + 1 + first)) (r.1 left) _ (ne_eqb first (i + 1 + first) (λ e. omega (arith, e))))

    by : (b : Bool) → by_name rows name left ≡ (place_of (map (λ r. r.0) rows) name >>= λ i. row_at (first + 1) rows (i + (first + 1)) left)
        → cond b (r.1 left) (by_name rows name left)
        ≡ (cond b (Some 0) (place_of (map (λ r. r.0) rows) name >>= λ i. Some (i + 1)) >>= λ i. row_at first (r ∷ rows) (i + first) left)
    by true h = sym (cond-true (nat_eq first (0 + first)) (r.1 left) _ (eq-eqb first (0 + first) (omega arith)))
    by false h = h ∙ later (place_of (map (λ r. r.0) rows) name)
