-- Rows lie in the place of their image.
use Rattle.std.proofs.Common.{◌≡◌, ℕ, suc, ◌+◌, ◌*◌, ◌≤◌, ◌<◌, List, length, Option, Some, None, IsSomeAnd, sym, ap, subst, ◌∙◌, arith}
use Rattle.std.specs.List.{slice_range}
use Rattle.std.proofs.Math.Nat.{suc-mul, mul-le-mul_right}

inside : (k h n m : ℕ) → k < h → m ≡ h * n → k * n + n ≤ m
inside k h n m below is = subst (λ x. k * n + n ≤ x) (sym is) (more k h n below)
  where
    more : (k h n : ℕ) → k < h → k * n + n ≤ h * n
    more k h n below =
        let above : suc k ≤ h = omega arith in
        subst (λ x. x ≤ h * n) (suc-mul k n) (mul-le-mul_right n above)

-- a row lies in the place
pub row_inside : (o : Option (List ℕ)) (k h n size at row : ℕ) → IsSomeAnd o (λ bytes. length bytes ≡ h * size) → k < h → at ≡ k → n ≡ size → row ≡ size → IsSomeAnd o (λ all. at * n + row ≤ length all)
row_inside None k h n size at row there below e f g = there
row_inside (Some all) k h n size at row there below e f g =
    subst (λ a. a * n + row ≤ length all) (sym e) (subst (λ m. k * m + row ≤ length all) (sym f) (subst (λ r. k * size + r ≤ length all) (sym g) (inside k h size (length all) below there)))

-- the row is what the place holds there
pub row_is : (all : List ℕ) (at k n row : ℕ) (read : List ℕ) → at ≡ k → row ≡ n → read ≡ slice_range all (at * n) (at * n + row) → read ≡ slice_range all (k * n) (k * n + n)
row_is all at k n row read e f is = is ∙ ap (λ a. slice_range all (a * n) (a * n + row)) e ∙ ap (λ r. slice_range all (k * n) (k * n + r)) f
