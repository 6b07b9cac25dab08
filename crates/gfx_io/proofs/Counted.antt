-- How often calls of a list of numbers have failed, one more call counted.
use Rattle.std.proofs.Common.{◌≡◌, zero, suc, ℕ, ◌+◌, ◌≤◌, ◌&&◌, nat_le, cond, List, [], ◌∷◌, arith, refl, le_refl}
use Rattle.std.specs.Prelude.{Contains}
use Rattle.std.proofs.lemmas.List.Sums.{sum_by-cons}
use Rattle.gfx_io.specs.Memory.{listed_calls}

-- what one number adds
abbrev one : ℕ → ℕ → ℕ
one x n = cond (nat_le 1 x && nat_le x n) 1 0

one-later : (x n m : ℕ) → n ≤ m → one x n ≤ one x m
one-later x n m h = grind arith

one-more : (x n : ℕ) → x ≡ n + 1 → one x n + 1 ≤ one x (n + 1)
one-more x n e = grind arith

one-still : (x n : ℕ) → (x ≡ n + 1 → ⊥) → one x (n + 1) ≡ one x n
one-still x n not = grind arith

add-le : (a b c d : ℕ) → a ≤ b → c ≤ d → a + c ≤ b + d
add-le a b c d h k = omega arith

more-first : (a b c d : ℕ) → a + 1 ≤ b → c ≤ d → a + c + 1 ≤ b + d
more-first a b c d h k = omega arith

more-rest : (a b c d : ℕ) → a ≤ b → c + 1 ≤ d → a + c + 1 ≤ b + d
more-rest a b c d h k = omega arith

add-same : (a b c d : ℕ) → a ≡ b → c ≡ d → a + c ≡ b + d
add-same a b c d e f = rw (e, f) refl

listed-cons : (x : ℕ) (xs : List ℕ) (n : ℕ) → listed_calls (x ∷ xs) n ≡ one x n + listed_calls xs n
listed-cons x xs n = sum_by-cons (λ k. one k n) x xs

pub listed_later : (xs : List ℕ) (n m : ℕ) → n ≤ m → listed_calls xs n ≤ listed_calls xs m
listed_later [] n m h = le_refl 0
listed_later (x ∷ xs) n m h = rw (listed-cons x xs n, listed-cons x xs m) (add-le (one x n) (one x m) (listed_calls xs n) (listed_calls xs m) (one-later x n m h) (listed_later xs n m h))

pub listed_more : (xs : List ℕ) (n : ℕ) → Contains xs (n + 1) → listed_calls xs n + 1 ≤ listed_calls xs (n + 1)
listed_more [] n h = omega (arith, h.1)
listed_more (x ∷ xs) n (zero, within, same) = rw (listed-cons x xs n, listed-cons x xs (n + 1)) (more-first (one x n) (one x (n + 1)) (listed_calls xs n) (listed_calls xs (n + 1)) (one-more x n same) (listed_later xs n (n + 1) (omega arith)))
listed_more (x ∷ xs) n (suc k, within, same) = rw (listed-cons x xs n, listed-cons x xs (n + 1)) (more-rest (one x n) (one x (n + 1)) (listed_calls xs n) (listed_calls xs (n + 1)) (one-later x n (n + 1) (omega arith)) (listed_more xs n (k, omega (arith, within), same)))

pub listed_still : (xs : List ℕ) (n : ℕ) → (Contains xs (n + 1) → ⊥) → listed_calls xs (n + 1) ≡ listed_calls xs n
listed_still [] n h = refl
listed_still (x ∷ xs) n h =
    rw (listed-cons x xs n, listed-cons x xs (n + 1)) (add-same (one x (n + 1)) (one x n) (listed_calls xs (n + 1)) (listed_calls xs n) (one-still x n (λ e. h (0, omega arith, e))) (listed_still xs n (λ c. h (suc c.0, omega (arith, c.1), c.2))))
