-- What two lists have in common, looked for from either.
use Rattle.std.proofs.Common.{◌≡◌, ℕ, ◌==◌, Bool, true, false, ◌||◌, List, [], ◌∷◌, refl, ap, ◌∙◌, arith}
use Rattle.std.specs.List.{list_any}
use Rattle.std.proofs.lemmas.Bool.Decides.{nat_tests}

none_in : (ys : List ℕ) → list_any (λ y. false) ys ≡ false
none_in [] = refl
none_in (y ∷ ys) = none_in ys

one_or_more : (x : ℕ) (p : ℕ → Bool) (ys : List ℕ) → list_any (λ y. x == y || p y) ys ≡ (list_any (λ y. y == x) ys || list_any p ys)
one_or_more x p [] = refl
one_or_more x p (y ∷ ys) =
    let rest = one_or_more x p ys in
    let turned : (x == y) ≡ (y == x) = grind (arith, nat_tests) in
    ap (λ t. (t || p y) || list_any (λ y. x == y || p y) ys) turned ∙ ap (λ t. ((y == x) || p y) || t) rest
    ∙ by (y == x) (p y) (list_any (λ y. y == x) ys) (list_any p ys)
  where
    by : (a b c d : Bool) → ((a || b) || (c || d)) ≡ ((a || c) || (b || d))
    by true b c d = refl
    by false b true true = turn b
      where
        turn : (b : Bool) → (b || true) ≡ true
        turn true = refl
        turn false = refl
    by false true true false = refl
    by false false true false = refl
    by false b false d = refl

-- one of the second list is in the first where one of the first is in the second
pub met : (xs ys : List ℕ) → list_any (λ y. list_any (λ x. x == y) xs) ys ≡ list_any (λ x. list_any (λ y. y == x) ys) xs
met [] ys = none_in ys
met (x ∷ xs) ys = one_or_more x (λ y. list_any (λ x. x == y) xs) ys ∙ ap (λ t. list_any (λ y. y == x) ys || t) (met xs ys)
