-- Totals over a list when one item changes, and what holds of each item.
use Rattle.std.proofs.Common.{All, length, ◌≡◌, ◌≢◌, ℕ, zero, suc, ◌+◌, ◌*◌, ◌<◌, ◌≤◌, ◌==◌, List, [], ◌∷◌, ◌++◌, set, sym, refl, ap, subst, ⊎_elim, arith, eq-eqb, ne_eqb}
use Rattle.std.proofs.lemmas.List.Elements.{All-nil, All-cons}
use mathlib.Core.Logic.{dite}
use mathlib.Core.Option.{some, some-injective, some-ne-none}
use native.Mathlib.Decide.{ℕ_discrete}
use lib.ListN.{get_elem?, get_or}
use Rattle.atomic_table.proofs.Lists.{at_set, at_snoc}
use mathlib.Core.List.{IsPrefix}
use Rattle.gfx_seats.specs.Entries.{weight, times, total}
use Rattle.gfx_seats.specs.Rule.{Each}

module _ {A : Type 0} where
  pub total-set : (f : A → ℕ) (l : List A) (i : ℕ) (v w : A) → get_elem? l i ≡ some v → total f (set l i w) + f v ≡ total f l + f w
  total-set f [] i v w e = absurd (some-ne-none v (sym e))
  total-set f (x ∷ xs) zero v w e = let is : f x ≡ f v = ap f (some-injective x v e) in omega arith
  total-set f (x ∷ xs) (suc i) v w e = let r = total-set f xs i v w e in omega arith

  pub total-append : (f : A → ℕ) (l m : List A) → total f (l ++ m) ≡ total f l + total f m
  total-append f [] m = omega arith
  total-append f (x ∷ xs) m = let r = total-append f xs m in omega arith

  pub total-at : (f : A → ℕ) (l : List A) (i : ℕ) (v : A) → get_elem? l i ≡ some v → f v ≤ total f l
  total-at f [] i v e = absurd (some-ne-none v (sym e))
  total-at f (x ∷ xs) zero v e = let is : f x ≡ f v = ap f (some-injective x v e) in omega arith
  total-at f (x ∷ xs) (suc i) v e = let r = total-at f xs i v e in omega arith

  pub total-two : (f : A → ℕ) (l : List A) (i j : ℕ) (v w : A) → i ≢ j → get_elem? l i ≡ some v → get_elem? l j ≡ some w → f v + f w ≤ total f l
  total-two f [] i j v w n e d = absurd (some-ne-none v (sym e))
  total-two f (x ∷ xs) zero zero v w n e d = absurd (n refl)
  total-two f (x ∷ xs) zero (suc j) v w n e d = let is : f x ≡ f v = ap f (some-injective x v e) in let r = total-at f xs j w d in omega arith
  total-two f (x ∷ xs) (suc i) zero v w n e d = let is : f x ≡ f w = ap f (some-injective x w d) in let r = total-at f xs i v e in omega arith
  total-two f (x ∷ xs) (suc i) (suc j) v w n e d = let r = total-two f xs i j v w (λ q. n (ap suc q)) e d in omega arith

  pub total-found : (f : A → ℕ) (l : List A) → 0 < total f l → (i : ℕ) × (v : A) × (get_elem? l i ≡ some v) × (0 < f v)
  total-found f [] h = absurd (omega arith)
  total-found f (x ∷ xs) h = dite (ℕ_discrete (f x) 0)
      (λ none_here. let r = total-found f xs (omega arith) in (suc r.0, r.1, r.2, r.3))
      (λ some_here. (0, x, refl, omega arith))

  pub total-le : (f g : A → ℕ) (c : ℕ) (l : List A) → Each (λ v. f v ≤ c * g v) l → total f l ≤ c * total g l
  total-le f g c [] h = omega arith
  total-le f g c (x ∷ xs) h = let a : f x ≤ c * g x = h 0 x refl in let r = total-le f g c xs (λ k v e. h (suc k) v e) in
      let d : c * (g x + total g xs) ≡ c * g x + c * total g xs = mul_add c (g x) (total g xs) in omega arith
    where
      mul_add : (a b d : ℕ) → a * (b + d) ≡ a * b + a * d
      mul_add a b d = grind arith

  pub each-set : (P : A → Type 0) (l : List A) (i : ℕ) (w : A) → P w → ((j : ℕ) (v : A) → j ≢ i → get_elem? l j ≡ some v → P v) → Each P (set l i w)
  each-set P l i w here else k x e = ⊎_elim (λ t. subst P t.1 here) (λ t. else k x t.0 t.1) (at_set l i k w x e)

  pub each-snoc : (P : A → Type 0) (l : List A) (w : A) → Each P l → P w → Each P (l ++ w ∷ [])
  each-snoc P l w h here k x e = ⊎_elim (λ t. h k x t) (λ t. subst P t here) (at_snoc l w x k e)

  pub each-append : (P : A → Type 0) (l m : List A) → Each P l → Each P m → Each P (l ++ m)
  each-append P [] m h d k x e = d k x e
  each-append P (y ∷ l) m h d zero x e = h 0 x e
  each-append P (y ∷ l) m h d (suc k) x e = each-append P l m (λ j z q. h (suc j) z q) d k x e

  pub each-nil : (P : A → Type 0) → Each P []
  each-nil P k x e = absurd (some-ne-none x (sym e))

  pub each-cons : (P : A → Type 0) (x : A) (l : List A) → P x → Each P l → Each P (x ∷ l)
  each-cons P x l p h zero y e = subst P (some-injective x y e) p
  each-cons P x l p h (suc j) y e = h j y e

  -- the item at a place, in the two forms in which it is named
  found : (l : List A) (k : ℕ) (x d : A) → get_elem? l k ≡ some x → (k < length l) × (get_or l k d ≡ x)
  found [] k x d e = absurd (some-ne-none x (sym e))
  found (y ∷ l) zero x d e = (omega arith, some-injective y x e)
  found (y ∷ l) (suc k) x d e = let r = found l k x d e in let less = r.0 in (omega arith, r.1)

  pub each-from_All : (P : A → Type 0) (l : List A) → All P l → Each P l
  each-from_All P l h k x e = let r = found l k x x e in subst P r.1 (h k x r.0)

  pub All-from_each : (P : A → Type 0) (l : List A) → Each P l → All P l
  All-from_each P [] h = All-nil P
  All-from_each P (x ∷ l) h = All-cons P x l (h 0 x refl) (All-from_each P l (λ k y e. h (suc k) y e))

  pub prefix-at : (xs ys : List A) (k : ℕ) (x : A) → IsPrefix xs ys → get_elem? xs k ≡ some x → get_elem? ys k ≡ some x
  prefix-at xs ys k x p e = subst (λ (l : List A). get_elem? l k ≡ some x) p.1 (further xs p.0 k e)
    where
      further : (l m : List A) (i : ℕ) → get_elem? l i ≡ some x → get_elem? (l ++ m) i ≡ some x
      further [] m i q = absurd (some-ne-none x (sym q))
      further (y ∷ l) m zero q = q
      further (y ∷ l) m (suc i) q = further l m i q

pub times-append : (x : ℕ) (l m : List ℕ) → times x (l ++ m) ≡ times x l + times x m
times-append x [] m = omega arith
times-append x (y ∷ ys) m = let r = times-append x ys m in omega arith

pub is-same : (x y : ℕ) → y ≡ x → weight (y == x) ≡ 1
is-same x y e = ap weight (eq-eqb y x e)

pub is-other : (x y : ℕ) → y ≢ x → weight (y == x) ≡ 0
is-other x y n = ap weight (ne_eqb y x n)

pub is-there : (x y : ℕ) → 0 < weight (y == x) → y ≡ x
is-there x y h = dite (ℕ_discrete y x) (λ e. e) (λ n. absurd (let z = is-other x y n in omega arith))
