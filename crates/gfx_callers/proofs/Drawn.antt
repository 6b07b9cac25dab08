-- Ids that a caller drew, and effects that create none.
use Rattle.std.proofs.Common.{◌≡◌, ℕ, ◌<◌, ◌==◌, List, [], ◌∷◌, ◌++◌, ap, subst, refl, arith, eq-eqb, ne_eqb}
use mathlib.Core.Logic.{dite}
use native.Mathlib.Decide.{ℕ_discrete}
use Rattle.gfx_seats.specs.Entries.{weight, times, AreAmong}
use Rattle.gfx_seats.proofs.Totals.{times-append}

-- the id that was drawn last was drawn
pub last_drawn : (drawn : List ℕ) (x : ℕ) → 0 < times x (drawn ++ x ∷ [])
last_drawn drawn x = let t = times-append x drawn (x ∷ []) in let one : weight (x == x) ≡ 1 = ap weight (eq-eqb x x refl) in omega arith

-- one id that was drawn
pub one_drawn : (ids drawn : List ℕ) (x : ℕ) → ids ≡ x ∷ [] → 0 < times x drawn → AreAmong ids drawn
one_drawn ids drawn x is there y pos = dite (ℕ_discrete x y)
    (λ same. subst (λ z. 0 < times z drawn) same there)
    (λ other. absurd (let none : weight (x == y) ≡ 0 = ap weight (ne_eqb x y other) in let at : 0 < times y (x ∷ []) = subst (λ l. 0 < times y l) is pos in omega arith))

-- no id needs to be drawn
pub none_drawn : (ids drawn : List ℕ) → ids ≡ [] → AreAmong ids drawn
none_drawn ids drawn is y pos = absurd (let at : 0 < times y [] = subst (λ l. 0 < times y l) is pos in omega arith)
