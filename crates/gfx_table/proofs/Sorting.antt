-- Lists of ids that rise, and how often an id is in a list.
use Rattle.std.proofs.Common.{◌≡◌, ◌≢◌, ℕ, zero, suc, ◌<◌, ◌≤◌, ◌+◌, ◌==◌, ◌&&◌, Bool, true, false, is_some, if◌then◌else◌, cond, List, [], ◌∷◌, ◌++◌, length, get_or, T, Some, refl, sym, ap, ◌∙◌, arith}
use Rattle.std.specs.Prelude.{sum_by, map as each, slice_get, filter}
use Rattle.std.specs.Ordering.{nat_cmp}
use Rattle.std.specs.List.Sorted.{IsSorted, IsPermutation, IsNonDecreasingBy}
use Rattle.std.proofs.lemmas.Bool.Decides.{nat_tests}
use Rattle.std.proofs.lemmas.List.Sums.{sum_by-cons}
use Rattle.std.proofs.lemmas.List.Sorted.{sum_by-IsPermutation, IsNonDecreasingBy-from_sort}
use Rattle.std.specs.FinMap as map
use Rattle.std.specs.FinMap.{FinMap, find, entries, entries_sorted, get-entries, is_sorted}
use Rattle.std.specs.FinMap.Entries.{below_all}
use Rattle.gfx_table.specs.Dense.{is_listed, StandApart}
use Rattle.gfx_table.specs.Values.{none_above}

-- ---- how often an id stands

abbrev one : ℕ → ℕ → ℕ
one x y = if y == x then 1 else 0

abbrev pub times : ℕ → List ℕ → ℕ
times x xs = sum_by (one x) xs

pub times_cons : (x y : ℕ) (ys : List ℕ) → times x (y ∷ ys) ≡ one x y + times x ys
times_cons x y ys = sum_by-cons (one x) y ys

pub times_append : (x : ℕ) (ys zs : List ℕ) → times x (ys ++ zs) ≡ times x ys + times x zs
times_append x [] zs = let none : times x [] ≡ 0 = refl in omega (arith, none)
times_append x (y ∷ ys) zs = let a = times_cons x y (ys ++ zs) in let b = times_cons x y ys in let rest = times_append x ys zs in omega (arith, a, b, rest)

pub times_moved : (x : ℕ) (ys zs : List ℕ) → IsPermutation ys zs → times x zs ≡ times x ys
times_moved x ys zs moved = sum_by-IsPermutation (one x) ys zs moved

-- an id that is in a list stands somewhere
somewhere : (xs : List ℕ) (x : ℕ) → 1 ≤ times x xs → (k : ℕ) × (slice_get xs k ≡ Some x)
somewhere [] x some = absurd (omega (arith, some))
somewhere (y ∷ ys) x some = by (y == x) refl (somewhere ys x)
  where
    by : (t : Bool) → (y == x) ≡ t → (1 ≤ times x ys → (k : ℕ) × (slice_get ys k ≡ Some x)) → (k : ℕ) × (slice_get (y ∷ ys) k ≡ Some x)
    by true is later = (0, grind (arith, nat_tests, is))
    by false is later =
        let a = times_cons x y ys in
        let here : one x y ≡ 0 = ap (λ t. if t then 1 else 0) is in
        let rest = later (omega (arith, a, here, some)) in
        (suc rest.0, rest.1)

-- ids each of which occurs once
once_at_most : (xs : List ℕ) → StandApart xs → (x : ℕ) → times x xs ≤ 1
once_at_most [] apart x = omega arith
once_at_most (y ∷ ys) apart x = by (y == x) refl (once_at_most ys (λ i j id at_i at_j. let same = apart (suc i) (suc j) id at_i at_j in omega (arith, same)) x)
  where
    none : y ≡ x → 1 ≤ times x ys → ⊥
    none is some = let there = somewhere ys x some in let same = apart 0 (suc there.0) x (ap Some is) there.1 in omega (arith, same)

    by : (t : Bool) → (y == x) ≡ t → times x ys ≤ 1 → times x (y ∷ ys) ≤ 1
    by true is rest =
        let a = times_cons x y ys in
        let here : one x y ≡ 1 = ap (λ t. if t then 1 else 0) is in
        let same : y ≡ x = grind (arith, nat_tests, is) in
        let no = none same in
        grind (arith, nat_tests, a, here, no)
    by false is rest =
        let a = times_cons x y ys in
        let here : one x y ≡ 0 = ap (λ t. if t then 1 else 0) is in
        omega (arith, a, here, rest)

pub listed_times : (xs : List ℕ) → StandApart xs → (x : ℕ) → times x xs ≡ (if is_listed x xs then 1 else 0)
listed_times xs apart x =
    let few = once_at_most xs apart x in
    let some = listed_some xs in
    let none = unlisted_none xs in
    grind (arith, few, some, none)
  where
    listed_some : (ys : List ℕ) → is_listed x ys ≡ true → 1 ≤ times x ys
    listed_some [] is = cc
    listed_some (y ∷ ys) is = let a = times_cons x y ys in let rest = listed_some ys in grind (arith, nat_tests, a, rest, is)

    unlisted_none : (ys : List ℕ) → is_listed x ys ≡ false → times x ys ≡ 0
    unlisted_none [] is = refl
    unlisted_none (y ∷ ys) is = let a = times_cons x y ys in let rest = unlisted_none ys in grind (arith, nat_tests, a, rest, is)

-- those that pass a test
pub times_filter : (p : ℕ → Bool) (x : ℕ) (ys : List ℕ) → times x (filter p ys) ≡ (if p x then times x ys else 0)
times_filter p x [] = by (p x)
  where
    by : (t : Bool) → times x [] ≡ (if t then times x [] else 0)
    by true = refl
    by false = refl
times_filter p x (y ∷ ys) = by (p y) refl (times_filter p x ys)
  where
    by : (t : Bool) → p y ≡ t → times x (filter p ys) ≡ (if p x then times x ys else 0) → times x (filter p (y ∷ ys)) ≡ (if p x then times x (y ∷ ys) else 0)
    by true is rest =
        let a : times x (filter p (y ∷ ys)) ≡ times x (y ∷ filter p ys) = ap (λ t. times x (cond t (y ∷ filter p ys) (filter p ys))) is in
        let b = times_cons x y (filter p ys) in
        let c = times_cons x y ys in
        let same : y ≡ x → p x ≡ true = λ e. ap p (sym e) ∙ is in
        grind (arith, nat_tests, a, b, c, same, rest)
    by false is rest =
        let a : times x (filter p (y ∷ ys)) ≡ times x (filter p ys) = ap (λ t. times x (cond t (y ∷ filter p ys) (filter p ys))) is in
        let c = times_cons x y ys in
        let same : y ≡ x → p x ≡ false = λ e. ap p (sym e) ∙ is in
        grind (arith, nat_tests, a, c, same, rest)

-- ---- lists that rise

-- no id is below the one before it
abbrev pub Rises : List ℕ → Type 0
Rises [] = Unit {0}
Rises (x ∷ xs) = ((y : ℕ) → 1 ≤ times y xs → x ≤ y) × Rises xs

at_place : (xs : List ℕ) (k x : ℕ) → slice_get xs k ≡ Some x → (k < length xs) × (get_or xs k 0 ≡ x)
at_place [] k x at = cc
at_place (y ∷ ys) zero x at = (omega arith, grind (arith, at))
at_place (y ∷ ys) (suc k) x at = let rest = at_place ys k x at in (omega (arith, rest.0), rest.1)

from_order : (xs : List ℕ) → IsNonDecreasingBy (λ (x : ℕ). x) xs → Rises xs
from_order [] order = tt
from_order (x ∷ xs) order = (
  λ y some.
      let there = somewhere xs y some in
      let at = at_place xs there.0 y there.1 in
      let le = order 0 (suc there.0) 0 (omega arith) (omega (arith, at.0)) in
      omega (arith, le, at.1),
  from_order xs (λ i j d le lt. order (suc i) (suc j) d (omega (arith, le)) (omega (arith, lt))),
)

sorted_rises : (xs : List ℕ) → IsSorted nat_cmp xs → Rises xs
sorted_rises xs sorted = from_order xs (IsNonDecreasingBy-from_sort (λ (x : ℕ). x) xs sorted)

filter_rises : (p : ℕ → Bool) (xs : List ℕ) → Rises xs → Rises (filter p xs)
filter_rises p [] rises = tt
filter_rises p (x ∷ xs) rises = by (p x) (filter_rises p xs rises.1)
  where
    later : (y : ℕ) → 1 ≤ times y (filter p xs) → x ≤ y
    later y some = let a = times_filter p y xs in let le = rises.0 y in grind (arith, a, le, some)

    by : (t : Bool) → Rises (filter p xs) → Rises (cond t (x ∷ filter p xs) (filter p xs))
    by true rest = (later, rest)
    by false rest = rest

first_below : (x y : ℕ) (xs ys : List ℕ) → Rises (y ∷ ys) → ((q : ℕ) → times q (x ∷ xs) ≡ times q (y ∷ ys)) → y ≤ x
first_below x y xs ys rises same =
    let a = same x in
    let b = times_cons x x xs in
    let c = times_cons x y ys in
    let here : one x x ≡ 1 = grind (arith, nat_tests) in
    let later = rises.0 x in
    let own : one x y ≡ 0 → 1 ≤ times x ys = λ none. omega (arith, a, b, c, here, none) in
    let is : y ≢ x → one x y ≡ 0 = λ not. grind (arith, nat_tests, not) in
    grind (arith, nat_tests, later, own, is)

-- lists that rise, in which each id stands as often, are the same
same_list : (xs ys : List ℕ) → Rises xs → Rises ys → ((q : ℕ) → times q xs ≡ times q ys) → xs ≡ ys
same_list [] [] rx ry same = refl
same_list [] (y ∷ ys) rx ry same =
    let a = same y in
    let b = times_cons y y ys in
    let here : one y y ≡ 1 = grind (arith, nat_tests) in
    absurd (omega (arith, a, b, here))
same_list (x ∷ xs) [] rx ry same =
    let a = same x in
    let b = times_cons x x xs in
    let here : one x x ≡ 1 = grind (arith, nat_tests) in
    absurd (omega (arith, a, b, here))
same_list (x ∷ xs) (y ∷ ys) rx ry same =
    let low = first_below x y xs ys ry same in
    let high = first_below y x ys xs rx (λ q. sym (same q)) in
    let is : x ≡ y = omega (arith, low, high) in
    let rest = same_list xs ys rx.1 ry.1 (λ q.
    let a = same q in
    let b = times_cons q x xs in
    let c = times_cons q y ys in
    let d = ap (one q) is in
    omega (arith, a, b, c, d)) in
    ap (λ h. h ∷ xs) is ∙ ap (λ t. y ∷ t) rest

-- ---- the ids of a map

module _ {X : Type 0} where
  above_all : (es : List (ℕ × X)) (x y : ℕ) → T (below_all nat_cmp x es) → 1 ≤ times y (each (λ e. e.0) es) → x ≤ y
  above_all [] x y below some = absurd (omega (arith, some))
  above_all (e ∷ es) x y below some =
      let a = times_cons y e.0 (each (λ e. e.0) es) in
      let tail : T (below_all nat_cmp x es) = grind (arith, nat_tests) in
      let rest = above_all es x y tail in
      let first : x ≤ e.0 = grind (arith, nat_tests) in
      let here : e.0 ≢ y → one y e.0 ≡ 0 = λ not. grind (arith, nat_tests, not) in
      grind (arith, nat_tests, a, rest, first, here, some)

  entries_rise : (es : List (ℕ × X)) → T (is_sorted nat_cmp es) → Rises (each (λ e. e.0) es)
  entries_rise [] sorted = tt
  entries_rise (e ∷ es) sorted =
      let below : T (below_all nat_cmp e.0 es) = grind arith in
      let tail : T (is_sorted nat_cmp es) = grind arith in
      (λ y some. above_all es e.0 y below some, entries_rise es tail)

  entries_once : (es : List (ℕ × X)) (x : ℕ) → T (is_sorted nat_cmp es) → times x (each (λ e. e.0) es) ≡ (if is_some (find nat_cmp x es) then 1 else 0)
  entries_once [] x sorted = refl
  entries_once (e ∷ es) x sorted =
      let below : T (below_all nat_cmp e.0 es) = grind arith in
      let tail : T (is_sorted nat_cmp es) = grind arith in
      let rest = entries_once es x tail in
      let none = none_above es x e.0 below in
      let a = times_cons x e.0 (each (λ e. e.0) es) in
      grind (arith, nat_tests, rest, none, a)

  keys_rise : (m : FinMap nat_cmp X) → Rises (map.keys m)
  keys_rise m = entries_rise (entries m) (entries_sorted m)

  pub keys_once : (m : FinMap nat_cmp X) (x : ℕ) → times x (map.keys m) ≡ (if is_some (map.get m x) then 1 else 0)
  keys_once m x = entries_once (entries m) x (entries_sorted m) ∙ ap (λ o. if is_some o then 1 else 0) (sym (get-entries m x))

  -- a sorted list of those ids of a map that pass a test
  pub sorted_filter : (m : FinMap nat_cmp X) (p : ℕ → Bool) (xs ys : List ℕ) → IsPermutation xs ys → IsSorted nat_cmp ys
      → ((x : ℕ) → times x xs ≡ (if p x && is_some (map.get m x) then 1 else 0)) → ys ≡ filter p (map.keys m)
  sorted_filter m p xs ys moved sorted each_once = same_list ys (filter p (map.keys m)) (sorted_rises ys sorted) (filter_rises p (map.keys m) (keys_rise m)) (λ q.
      let a = times_moved q xs ys moved in
      let b = each_once q in
      let c = times_filter p q (map.keys m) in
      let d = keys_once m q in
      grind (arith, a, b, c, d))

  -- a sorted list of the ids of a map
  pub sorted_keys : (m : FinMap nat_cmp X) (xs ys : List ℕ) → IsPermutation xs ys → IsSorted nat_cmp ys → ((x : ℕ) → times x xs ≡ (if is_some (map.get m x) then 1 else 0)) → ys ≡ map.keys m
  sorted_keys m xs ys moved sorted each_once =
      same_list ys (map.keys m) (sorted_rises ys sorted) (keys_rise m) (λ q. times_moved q xs ys moved ∙ each_once q ∙ sym (keys_once m q))
