-- Whether two lists are one, from a place on.
use Rattle.std.proofs.Common.{◌≡◌, ◌≢◌, ◌<◌, ◌==◌, ◌&&◌, not, ℕ, zero, suc, ◌+◌, Bool, true, false, List, [], ◌∷◌, length, drop, get_or, Option, Some, None, refl, sym, ap, ◌∙◌, arith, add-one}
use Rattle.std.proofs.lemmas.Bool.Decides.{nat_tests}
use Rattle.std.specs.List.{slice_get}
use Rattle.std.specs.Option.{is_some, is_none}
use Rattle.std.proofs.lemmas.List.{at_drop_more}
use Rattle.gfx_model.specs.Checks.{same_list}

none_left : (xs : List ℕ) (i : ℕ) → None ≡ slice_get xs i → drop i xs ≡ []
none_left [] zero e = refl
none_left [] (suc i) e = refl
none_left (x ∷ xs) zero e = cc
none_left (x ∷ xs) (suc i) e = none_left xs i e

some_left : (xs : List ℕ) (i x : ℕ) → Some x ≡ slice_get xs i → drop i xs ≡ x ∷ drop (suc i) xs
some_left [] i x e = cc
some_left (y ∷ ys) zero x e = let h : y ≡ x = cc in ap (λ z. z ∷ ys) h
some_left (y ∷ ys) (suc i) x e = some_left ys i x e

pub missing : (all ids : List ℕ) (i : ℕ) (is : Bool) → i < length ids → None ≡ slice_get all i → same_list (drop i all) (drop i ids) ≡ is → false ≡ is
missing all ids i is h e left =
    sym (at_drop_more (same_list (drop i all)) ids i 0 h ∙ ap (λ xs. same_list xs (get_or ids i 0 ∷ drop (i + 1) ids)) (none_left all i e)) ∙ left

both : (all ids : List ℕ) (i x : ℕ) → i < length ids → Some x ≡ slice_get all i
    → same_list (drop i all) (drop i ids) ≡ (x == get_or ids i 0 && same_list (drop (i + 1) all) (drop (i + 1) ids))
both all ids i x h e =
    at_drop_more (same_list (drop i all)) ids i 0 h
    ∙ ap (λ xs. same_list xs (get_or ids i 0 ∷ drop (i + 1) ids)) (some_left all i x e ∙ ap (λ n. x ∷ drop n all) (sym (add-one i)))

pub differ : (x y : ℕ) → x ≢ y → (x == y) ≡ false
differ x y h = grind (arith, nat_tests)

pub one : (x y : ℕ) → x ≡ y → (x == y) ≡ true
one x y h = grind (arith, nat_tests)

pub other : (all ids : List ℕ) (i x : ℕ) (is : Bool) → i < length ids → Some x ≡ slice_get all i → x ≢ get_or ids i 0 → same_list (drop i all) (drop i ids) ≡ is → false ≡ is
other all ids i x is h e ne left =
    sym (both all ids i x h e ∙ ap (λ b. b && same_list (drop (i + 1) all) (drop (i + 1) ids)) (differ x (get_or ids i 0) ne)) ∙ left

pub same : (all ids : List ℕ) (i x : ℕ) (is : Bool) → i < length ids → Some x ≡ slice_get all i → x ≡ get_or ids i 0 → same_list (drop i all) (drop i ids) ≡ is
    → same_list (drop (i + 1) all) (drop (i + 1) ids) ≡ is
same all ids i x is h e eq left =
    sym (both all ids i x h e ∙ ap (λ b. b && same_list (drop (i + 1) all) (drop (i + 1) ids)) (one x (get_or ids i 0) eq)) ∙ left

ends : (xs : List ℕ) (n : ℕ) → same_list (drop n xs) [] ≡ is_none (slice_get xs n)
ends [] zero = refl
ends [] (suc n) = refl
ends (x ∷ xs) zero = refl
ends (x ∷ xs) (suc n) = ends xs n

all_gone : (xs : List ℕ) → drop (length xs) xs ≡ []
all_gone [] = refl
all_gone (x ∷ xs) = all_gone xs

turned : (a b : Bool) → not a ≡ b → a ≡ not b
turned true b e = ap not e
turned false b e = ap not e

pub ended : (all ids : List ℕ) (i : ℕ) (o : Option ℕ) (gone is : Bool) → i ≡ length ids → o ≡ slice_get all (length ids) → not gone ≡ is_some o
    → same_list (drop i all) (drop i ids) ≡ is → gone ≡ is
ended all ids i o gone is e f n left =
    turned gone (is_some o) n ∙ ap is_none f ∙ sym (ends all (length ids)) ∙ ap (same_list (drop (length ids) all)) (sym (all_gone ids))
    ∙ ap (λ n. same_list (drop n all) (drop n ids)) (sym e) ∙ left
