-- Items and bytes that were read have a spelling.
use Rattle.std.proofs.Common.{◌≡◌, ℕ, zero, suc, ◌+◌, ◌<◌, ◌≤◌, Fits, w8, List, [], ◌∷◌, length, take, get_or, subst, arith}
use Rattle.std.specs.Prelude.{flat_map}
use Rattle.std.specs.List.{AllByRecursion}
use Rattle.gfx_model.specs.Spelling.{Field, FieldFits}
use Rattle.gfx_model.proofs.Lists.{all_append}

pub items_fit : {X : Type 0} (f : X → List Field) (xs : List X) (d : X) → ((k : ℕ) → k < length xs → AllByRecursion FieldFits (f (get_or xs k d))) → AllByRecursion FieldFits (flat_map f xs)
items_fit f [] d each = tt
items_fit f (x ∷ xs) d each = all_append FieldFits (f x) (flat_map f xs) (each 0 (omega arith)) (items_fit f xs d (λ k below. each (suc k) (omega arith)))

-- what holds of the items so far, and of the next one
pub one_more : {X : Type 0} (P : X → Type 0) (xs : List X) (i : ℕ) (x : X) → i < length xs → x ≡ get_or xs i x → AllByRecursion P (take i xs) → P x → AllByRecursion P (take (i + 1) xs)
one_more {X} P xs i x below is all one = subst (λ n. AllByRecursion P (take n xs)) (let e : suc i ≡ i + 1 = omega arith in e) (next xs i below is all)
  where
    next : (xs : List X) (i : ℕ) → i < length xs → x ≡ get_or xs i x → AllByRecursion P (take i xs) → AllByRecursion P (take (suc i) xs)
    next [] i below is all = absurd (omega arith)
    next (y ∷ ys) zero below is all = (subst P is one, tt)
    next (y ∷ ys) (suc i) below is all = (all.0, next ys i (omega arith) is all.1)

-- the fields of all items fit, where those of as many as there are do
pub all_read : {X : Type 0} (f : X → List Field) (xs : List X) (n : ℕ) → length xs ≤ n → AllByRecursion (λ x. AllByRecursion FieldFits (f x)) (take n xs) → AllByRecursion FieldFits (flat_map f xs)
all_read f [] n over all = tt
all_read f (x ∷ xs) zero over all = absurd (omega arith)
all_read f (x ∷ xs) (suc n) over all = all_append FieldFits (f x) (flat_map f xs) all.0 (all_read f xs n (omega arith) all.1)

pub bytes_fit : (bytes : List ℕ) → ((i : ℕ) → Fits w8 (get_or bytes i 0)) → AllByRecursion (λ b. b < 256) bytes
bytes_fit [] each = tt
bytes_fit (b ∷ bytes) each = (let byte = each 0 in omega (arith, byte), bytes_fit bytes (λ i. each (suc i)))
