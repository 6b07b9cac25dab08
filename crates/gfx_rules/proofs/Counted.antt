-- Numbers that occur once, in any order of them.
use Rattle.std.proofs.Common.{◌≡◌, ◌<◌, ◌≤◌, ◌+◌, ◌==◌, ℕ, zero, suc, true, false, Bool, List, [], ◌∷◌, ◌++◌, length, take, get_or, refl, sym, ap, ◌∙◌, arith, if◌then◌else◌}
use Rattle.std.specs.Prelude.{sum_by}
use Rattle.std.specs.List.Sorted.{IsPermutation}
use Rattle.std.proofs.lemmas.Bool.Decides.{nat_tests}
use Rattle.std.proofs.lemmas.List.{take_more}
use Rattle.std.proofs.lemmas.List.Folds.{list_any-append}
use Rattle.std.proofs.lemmas.List.Sums.{sum_by-cons}
use Rattle.std.proofs.lemmas.List.Sorted.{sum_by-IsPermutation}
use Rattle.gfx_model.specs.Checks.{is_among, is_distinct}
use Rattle.gfx_rules.proofs.New.{above_more}

-- ---- how often a number stands

abbrev one : ℕ → ℕ → ℕ
one x y = if y == x then 1 else 0

abbrev count : ℕ → List ℕ → ℕ
count x xs = sum_by (one x) xs

none_counted : (xs : List ℕ) (x : ℕ) → is_among x xs ≡ false → count x xs ≡ 0
none_counted [] x none = refl
none_counted (y ∷ ys) x none =
    let a = sum_by-cons (one x) y ys in
    let rest = none_counted ys x (grind (arith, none)) in
    let here : one x y ≡ 0 = grind (arith, none) in
    omega (arith, a, rest, here)

counted : (xs : List ℕ) (x : ℕ) → is_among x xs ≡ true → 1 ≤ count x xs
counted [] x among = cc
counted (y ∷ ys) x among = cases (counted ys x) (y == x) refl
  where
    cases : (is_among x ys ≡ true → 1 ≤ count x ys) → (t : Bool) → (y == x) ≡ t → 1 ≤ count x (y ∷ ys)
    cases rest true e =
        let a = sum_by-cons (one x) y ys in
        let here : one x y ≡ 1 = ap (λ t. if t then 1 else 0) e in
        omega (arith, a, here)
    cases rest false e =
        let a = sum_by-cons (one x) y ys in
        let more = rest (grind (arith, among, e)) in
        omega (arith, a, more)

few : (xs : List ℕ) → is_distinct xs ≡ true → (x : ℕ) → count x xs ≤ 1
few [] distinct x = omega arith
few (y ∷ ys) distinct x = cases (few ys (grind (arith, distinct)) x) (y == x) refl
  where
    cases : count x ys ≤ 1 → (t : Bool) → (y == x) ≡ t → count x (y ∷ ys) ≤ 1
    cases rest true e =
        let a = sum_by-cons (one x) y ys in
        let here : one x y ≡ 1 = ap (λ t. if t then 1 else 0) e in
        let same : y ≡ x = grind (arith, nat_tests, e) in
        let none : is_among y ys ≡ false = grind (arith, distinct) in
        let none_more = none_counted ys x (sym (ap (λ x. is_among x ys) same) ∙ none) in
        omega (arith, a, here, none_more)
    cases rest false e =
        let a = sum_by-cons (one x) y ys in
        let here : one x y ≡ 0 = ap (λ t. if t then 1 else 0) e in
        omega (arith, a, here, rest)

of_few : (xs : List ℕ) → ((x : ℕ) → count x xs ≤ 1) → is_distinct xs ≡ true
of_few [] each = refl
of_few (y ∷ ys) each = cases (of_few ys (λ x. let a = sum_by-cons (one x) y ys in let e = each x in omega (arith, a, e))) (is_among y ys) refl
  where
    cases : is_distinct ys ≡ true → (t : Bool) → is_among y ys ≡ t → is_distinct (y ∷ ys) ≡ true
    cases rest true e =
        let a = sum_by-cons (one y) y ys in
        let here : one y y ≡ 1 = grind (arith, nat_tests) in
        let more = counted ys y e in
        let all = each y in
        absurd (omega (arith, a, here, more, all))
    cases rest false e = grind (arith, e, rest)

pub distinct_in_any_order : (xs ys : List ℕ) → IsPermutation xs ys → is_distinct ys ≡ true → is_distinct xs ≡ true
distinct_in_any_order xs ys moved distinct =
    of_few xs (λ x. let a = few ys distinct x in let same = sum_by-IsPermutation (one x) xs ys moved in omega (arith, a, same))

-- ---- numbers that rise

snoc : (xs : List ℕ) (x : ℕ) → is_distinct xs ≡ true → is_among x xs ≡ false → is_distinct (xs ++ x ∷ []) ≡ true
snoc [] x distinct none = refl
snoc (y ∷ ys) x distinct none =
    let among = list_any-append (λ z. z == y) ys (x ∷ []) in
    let rest = snoc ys x (grind (arith, distinct)) (grind (arith, none)) in
    grind (arith, nat_tests, distinct, none, among, rest)

pub distinct_more : (xs : List ℕ) (i : ℕ) → i < length xs → is_distinct (take i xs) ≡ true → is_among (get_or xs i 0) (take i xs) ≡ false → is_distinct (take (i + 1) xs) ≡ true
distinct_more xs i there distinct none = ap is_distinct (take_more xs i 0 there) ∙ snoc (take i xs) (get_or xs i 0) distinct none

-- ---- a number behind others

get_among : (xs : List ℕ) (i : ℕ) → i < length xs → is_among (get_or xs i 0) xs ≡ true
get_among [] i there = absurd (omega (arith, there))
get_among (x ∷ xs) zero there = grind (arith, nat_tests)
get_among (x ∷ xs) (suc i) there = let rest = get_among xs i (omega (arith, there)) in grind (arith, rest)

pub apart_at : (xs : List ℕ) (i : ℕ) → i < length xs → is_distinct xs ≡ true → is_among (get_or xs i 0) (take i xs) ≡ false
apart_at [] i there distinct = absurd (omega (arith, there))
apart_at (x ∷ xs) zero there distinct = refl
apart_at (x ∷ xs) (suc i) there distinct =
    let rest = apart_at xs i (omega (arith, there)) (grind (arith, distinct)) in
    let among = get_among xs i (omega (arith, there)) in
    let same : x ≡ get_or xs i 0 → is_among x xs ≡ is_among (get_or xs i 0) xs = ap (λ z. is_among z xs) in
    grind (arith, nat_tests, rest, among, same, distinct)

-- one number more, which is greater than all before it
pub rises_more : (xs : List ℕ) (i last : ℕ) → i < length xs → is_distinct (take i xs) ≡ true → ((x : ℕ) → last < x → is_among x (take i xs) ≡ false) → last < get_or xs i 0
    → (is_distinct (take (i + 1) xs) ≡ true) × ((x : ℕ) → get_or xs i 0 < x → is_among x (take (i + 1) xs) ≡ false)
rises_more xs i last there distinct above greater =
    (distinct_more xs i there distinct (above (get_or xs i 0) greater), above_more xs i last (get_or xs i 0) there above (omega (arith, greater)) (omega arith))

-- the first one
pub rises_first : (xs : List ℕ) (i : ℕ) → i < length xs → i ≤ 0 → (is_distinct (take (i + 1) xs) ≡ true) × ((x : ℕ) → get_or xs i 0 < x → is_among x (take (i + 1) xs) ≡ false)
rises_first [] i there none = absurd (omega (arith, there))
rises_first (y ∷ ys) zero there none = (refl, λ x lt. grind (arith, nat_tests, lt))
rises_first (y ∷ ys) (suc i) there none = absurd (omega (arith, none))
