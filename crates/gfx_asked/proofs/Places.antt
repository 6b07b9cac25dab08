-- What the ranges of a tree say of its changes.
use Rattle.std.proofs.Common.{◌≡◌, ◌==◌, ℕ, zero, suc, ◌+◌, ◌<◌, ◌≤◌, ◌||◌, Bool, true, false, List, [], ◌∷◌, ◌++◌, Option, Some, None, is_some, refl, sym, ◌∙◌, ap, subst, arith}
use Rattle.std.specs.Ordering.{nat_cmp}
use Rattle.std.specs.declared.cmp.Ordering.TheVariants.{Less}
use Rattle.std.specs.declared.ops.Bound.TheVariants.{Included, Excluded, Unbounded}
use Rattle.std.specs.Map.{lookup}
use Rattle.std.specs.List.{list_any, range_with_len}
use Rattle.std.specs.BTreeMap.{BTreeMap, is_at}
use Rattle.std.specs.BTreeMap.Range.{IsRangeOf}
use Rattle.std.proofs.lemmas.Bool.Decides.{nat_tests}
use Rattle.std.proofs.lemmas.Map.Keys.{le_from_not_gt, ge_from_not_lt}
use Rattle.gfx_asked.specs.Bounds.{change_at, holds, IsNext}
use Rattle.gfx_asked.proofs.Changes.{last_change, no_change}

less : (a b : ℕ) → a < b → nat_cmp a b ≡ Less
less a b lt = grind (arith, nat_tests)

below : (a b : ℕ) → nat_cmp a b ≡ Less → a < b
below a b is = grind (arith, nat_tests)

-- a number before the first change, or behind the last, is no change
none_unless : {X : Type 0} (o : Option X) → (is_some o ≡ true → ⊥) → o ≡ None
none_unless None h = refl
none_unless (Some x) h = absurd (h refl)

-- the first entry between two numbers
pub first_next : (m : BTreeMap ℕ Bool) (from to : ℕ) (r rest : List (ℕ × Bool)) (e : ℕ × Bool) → r ≡ e ∷ rest
    → IsRangeOf nat_cmp (Excluded from) (Excluded to) m r → IsNext (change_at m) from to e.0
first_next m from to r rest e is h =
    let part = subst (λ r. IsRangeOf nat_cmp (Excluded from) (Excluded to) m r) is h in
    record {
      after = below from e.0 ((part.1).0).0;
      before = below e.0 to ((part.1).0).1;
      changes = ap is_some (part.1).1;
      steady = λ j lt before. none_unless (change_at m j) (λ some.
          let le = le_from_not_gt e.0 j (part.2 j (less from j lt, less j to (let last = below e.0 to ((part.1).0).1 in omega (arith, before, last))) some) in
          omega (arith, le, before));
    }

-- the last entry up to a number says whether it is in
pub last_says : (m : BTreeMap ℕ Bool) (number : ℕ) (r front : List (ℕ × Bool)) (e : ℕ × Bool) → r ≡ front ++ e ∷ []
    → IsRangeOf nat_cmp Unbounded (Included number) m r → e.1 ≡ holds m number
last_says m number r front e is h =
    let here = h.3 e front is in
    sym (last_change (change_at m) e.0 number e.1 here.1 (le_from_not_gt e.0 number (here.0).1) (λ q lt le. none_unless (change_at m q) (λ some.
    let low = ge_from_not_lt e.0 q (h.4 e front is q (tt, grind (arith, nat_tests)) some) in
    omega (arith, low, lt))))

pub none_says : (m : BTreeMap ℕ Bool) (number : ℕ) (r : List (ℕ × Bool)) → r ≡ [] → IsRangeOf nat_cmp Unbounded (Included number) m r → false ≡ holds m number
none_says m number r is h = sym (no_change (change_at m) number (λ q le. h.5 is q (tt, grind (arith, nat_tests))))

-- without entries nothing is in
pub empty_holds : (m : BTreeMap ℕ Bool) → m.entries ≡ [] → (j : ℕ) → holds m j ≡ false
empty_holds m none j = no_change (change_at m) j (λ q le. ap (λ es. lookup (is_at (nat_cmp q)) es) none)

-- ---- tests of the numbers of a range

pub any_at : (t : ℕ → Bool) (a n j : ℕ) → a ≤ j → j < a + n → t j ≡ true → true ≡ list_any t (range_with_len a n)
any_at t a zero j low high e = absurd (omega (arith, low, high))
any_at t a (suc n) j low high e = by (a == j) refl (any_at t (a + 1) n j)
  where
    by : (u : Bool) → (a == j) ≡ u → (a + 1 ≤ j → j < a + 1 + n → t j ≡ true → true ≡ list_any t (range_with_len (a + 1) n)) → true ≡ t a || list_any t (range_with_len (a + 1) n)
    by true same rest = let is : a ≡ j = grind (arith, nat_tests) in let here : t a ≡ true = ap t is ∙ e in grind (arith, here)
    by false apart rest = let there = rest (grind (arith, nat_tests)) (omega (arith, high)) e in grind (arith, there)

pub none_among : (t : ℕ → Bool) (a n : ℕ) → ((j : ℕ) → a ≤ j → j < a + n → t j ≡ false) → false ≡ list_any t (range_with_len a n)
none_among t a zero none = refl
none_among t a (suc n) none =
    let here = none a (omega arith) (omega arith) in
    let rest = none_among t (a + 1) n (λ j low high. none j (omega (arith, low)) (omega (arith, high))) in
    grind (arith, here, rest)
