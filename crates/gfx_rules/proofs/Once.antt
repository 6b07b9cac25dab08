-- Numbers that are in one of two lists.
use Rattle.std.proofs.Common.{◌≡◌, ℕ, Bool, ◌==◌, ◌||◌, true, false, List, [], ◌∷◌, ◌++◌, refl, ap, ◌∙◌}
use Rattle.gfx_model.specs.Checks.{is_among}

or_assoc : (a b c : Bool) → (a || (b || c)) ≡ ((a || b) || c)
or_assoc true b c = refl
or_assoc false b c = refl

pub among_append : (x : ℕ) (xs ys : List ℕ) → is_among x (xs ++ ys) ≡ (is_among x xs || is_among x ys)
among_append x [] ys = refl
among_append x (y ∷ xs) ys = ap (λ b. (y == x) || b) (among_append x xs ys) ∙ or_assoc (y == x) (is_among x xs) (is_among x ys)
