-- Sums over rising ids.
use Rattle.std.proofs.Common.{◌≡◌, ℕ, ◌+◌, ◌*◌, ◌<◌, ◌≤◌, Bool, true, false, ◌==◌, List, [], ◌∷◌, length, filter, flat_map, sum_by, length-append, if◌then◌else◌, refl, sym, ap, subst, arith}
use Rattle.std.specs.List.{AllByRecursion}
use Rattle.std.proofs.lemmas.Bool.{eqb-true}
use Rattle.std.proofs.lemmas.Bool.Decides.{nat_tests}
use Rattle.std.proofs.lemmas.List.Sums.{sum_by-cons}
use Rattle.gfx_model.specs.Events.{Event}
use Rattle.gfx_laws.specs.Lawful.{IsRising}

-- ---- sums

sum_le : (f g : ℕ → ℕ) (xs : List ℕ) → ((x : ℕ) → f x ≤ g x) → sum_by f xs ≤ sum_by g xs
sum_le f g [] each = omega arith
sum_le f g (x ∷ xs) each = let a = sum_by-cons f x xs in let b = sum_by-cons g x xs in let r = sum_le f g xs each in let e = each x in omega (arith, a, b, r, e)

pub sum_add : (f g : ℕ → ℕ) (xs : List ℕ) → sum_by (λ x. f x + g x) xs ≡ sum_by f xs + sum_by g xs
sum_add f g [] = refl
sum_add f g (x ∷ xs) =
    let a = sum_by-cons f x xs in let b = sum_by-cons g x xs in let c = sum_by-cons (λ x. f x + g x) x xs in let r = sum_add f g xs in omega (arith, a, b, c, r)

pub sum_same : (c : ℕ) (xs : List ℕ) → sum_by (λ x. c) xs ≡ c * length xs
sum_same c [] = omega arith
sum_same c (x ∷ xs) = let a = sum_by-cons (λ (x : ℕ). c) x xs in let r = sum_same c xs in grind (arith, a, r)

-- what occurs once at most
sum_none : (a c : ℕ) (xs : List ℕ) → AllByRecursion (λ x. a < x) xs → sum_by (λ x. if a == x then c else 0) xs ≡ 0
sum_none a c [] l = refl
sum_none a c (x ∷ xs) l =
    let s = sum_by-cons (λ x. if a == x then c else 0) x xs in let r = sum_none a c xs l.1 in let b = l.0 in
    let z : (if a == x then c else 0) ≡ 0 = ap (λ t. if t then c else 0) (let o : (a == x) ≡ false = grind (arith, nat_tests, b) in o) in
    omega (arith, s, r, z)

sum_once : (a c : ℕ) (xs : List ℕ) → IsRising xs → sum_by (λ x. if a == x then c else 0) xs ≤ c
sum_once a c [] l = omega arith
sum_once a c (x ∷ xs) l = cases (a == x) refl (sum_once a c xs l.1)
  where
    s : sum_by (λ x. if a == x then c else 0) (x ∷ xs) ≡ (if a == x then c else 0) + sum_by (λ x. if a == x then c else 0) xs
    s = sum_by-cons (λ x. if a == x then c else 0) x xs

    cases : (t : Bool) → (a == x) ≡ t → sum_by (λ x. if a == x then c else 0) xs ≤ c → sum_by (λ x. if a == x then c else 0) (x ∷ xs) ≤ c
    cases true e r =
        let z : (if a == x then c else 0) ≡ c = ap (λ t. if t then c else 0) e in
        let n = sum_none a c xs (subst (λ y. AllByRecursion (λ z. y < z) xs) (sym (eqb-true a x e)) l.0) in
        let w = s in omega (arith, z, n, w)
    cases false e r =
        let z : (if a == x then c else 0) ≡ 0 = ap (λ t. if t then c else 0) e in
        let w = s in omega (arith, z, r, w)

-- the sums over the items of each x are together no more than the sum over all items
pub sum_parts : (parent g : ℕ → ℕ) (xs ys : List ℕ) → IsRising xs → sum_by (λ x. sum_by g (filter (λ y. parent y == x) ys)) xs ≤ sum_by g ys
sum_parts parent g xs [] r = let e = sum_same 0 xs in let f : sum_by (λ x. sum_by g (filter (λ y. parent y == x) [])) xs ≡ sum_by (λ (x : ℕ). 0) xs = refl in omega (arith, e, f)
sum_parts parent g xs (y ∷ ys) r =
    let a = sum_le (λ x. sum_by g (filter (λ y. parent y == x) (y ∷ ys))) (λ x. (if parent y == x then g y else 0) + sum_by g (filter (λ y. parent y == x) ys)) xs (λ x. one x (parent y == x)) in
    let b = sum_add (λ x. if parent y == x then g y else 0) (λ x. sum_by g (filter (λ y. parent y == x) ys)) xs in
    let c = sum_once (parent y) (g y) xs r in
    let d = sum_parts parent g xs ys r in
    let e = sum_by-cons g y ys in
    omega (arith, a, b, c, d, e)
  where
    one : (x : ℕ) (t : Bool) → sum_by g (if t then y ∷ filter (λ y. parent y == x) ys else filter (λ y. parent y == x) ys) ≤ (if t then g y else 0) + sum_by g (filter (λ y. parent y == x) ys)
    one x true = let s = sum_by-cons g y (filter (λ y. parent y == x) ys) in omega (arith, s)
    one x false = omega arith

pub length-flat : {X : Type 0} (f : X → List Event) (g : X → ℕ) (xs : List X) → ((x : X) → length (f x) ≤ g x) → length (flat_map f xs) ≤ sum_by g xs
length-flat f g [] each = omega arith
length-flat f g (x ∷ xs) each =
    let a = length-append (f x) (flat_map f xs) in let b = sum_by-cons g x xs in let r = length-flat f g xs each in let e = each x in omega (arith, a, b, r, e)

pub length-flat-all : (f : ℕ → List Event) (g : ℕ → ℕ) (xs : List ℕ) → AllByRecursion (λ x. length (f x) ≤ g x) xs → length (flat_map f xs) ≤ sum_by g xs
length-flat-all f g [] each = omega arith
length-flat-all f g (x ∷ xs) each =
    let a = length-append (f x) (flat_map f xs) in let b = sum_by-cons g x xs in let r = length-flat-all f g xs each.1 in let e = each.0 in omega (arith, a, b, r, e)
