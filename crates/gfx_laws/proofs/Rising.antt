-- Rising lists: with the same numbers they are the same, and with fewer numbers they have smaller sums.
use Rattle.std.proofs.Common.{◌≡◌, ℕ, ◌<◌, true, subst, List, [], ◌∷◌, ◌==◌, ◌⊎◌, inl, inr}
use Rattle.std.specs.List.{AllByRecursion}
use Rattle.std.proofs.lemmas.Bool.{eqb-true, or_cases}
use Rattle.gfx_model.specs.Checks.{is_among}

-- a number of a list that others are below is above them
pub above_each : (x y : ℕ) (xs : List ℕ) → AllByRecursion (λ z. x < z) xs → is_among y xs ≡ true → x < y
above_each x y [] a m = absurd (cc)
above_each x y (z ∷ zs) a m = by (or_cases (z == y) (is_among y zs) m) (above_each x y zs a.1)
  where
    by : ((z == y) ≡ true) ⊎ (is_among y zs ≡ true) → (is_among y zs ≡ true → x < y) → x < y
    by (inl same) more = subst (λ w. x < w) (eqb-true z y same) a.0
    by (inr rest) more = more rest
