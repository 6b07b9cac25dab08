-- The next id above another.
use Rattle.std.proofs.Common.{◌≡◌, ℕ, ◌<◌, ◌≤◌, Bool, true, List, [], ◌∷◌, T, nat_lt, Option, Some, None, is_some, refl, ap, sym, ◌∙◌, arith}
use Rattle.std.specs.Prelude.{find, map as each}
use Rattle.std.specs.Ordering.{nat_cmp}
use Rattle.std.specs.FinMap as map
use Rattle.std.specs.FinMap.{FinMap, entries, entries_sorted, get-entries, is_sorted}
use Rattle.std.specs.FinMap.Entries.{below_all}
use Rattle.std.proofs.lemmas.Bool.Decides.{nat_tests}
use Rattle.gfx_table.specs.Slots.{least_above}
use Rattle.gfx_table.specs.Values.{none_above}

module _ {X : Type 0} (p : ℕ → Bool) where
  find_kept : (es : List (ℕ × X)) (id : ℕ) → find p (each (λ e. e.0) es) ≡ Some id → is_some (map.find nat_cmp id es) ≡ true
  find_kept [] id is = cc
  find_kept (e ∷ es) id is = let rest = find_kept es id in grind (arith, nat_tests, is, rest)

  find_first : (es : List (ℕ × X)) (id x : ℕ) (o : X) → T (is_sorted nat_cmp es)
      → find p (each (λ e. e.0) es) ≡ Some id → map.find nat_cmp x es ≡ Some o → p x ≡ true → id ≤ x
  find_first [] id x o sorted is some px = cc
  find_first (e ∷ es) id x o sorted is some px =
      let below : T (below_all nat_cmp e.0 es) = grind arith in
      let tail : T (is_sorted nat_cmp es) = grind arith in
      let rest = find_first es id x o tail in
      let none = none_above es x e.0 below in
      let same : x ≡ e.0 → p x ≡ p e.0 = ap p in
      grind (arith, nat_tests, rest, none, same, is, some, px)

  find_none : (es : List (ℕ × X)) (x : ℕ) (o : X) → find p (each (λ e. e.0) es) ≡ None → map.find nat_cmp x es ≡ Some o → p x ≡ true → ⊥
  find_none [] x o is some px = cc
  find_none (e ∷ es) x o is some px =
      let rest = find_none es x o in
      let same : x ≡ e.0 → p x ≡ p e.0 = ap p in
      grind (arith, nat_tests, rest, same, is, some, px)

module _ {X : Type 0} (m : FinMap nat_cmp X) (after : ℕ) where
  pub least_kept : (id : ℕ) → least_above m after ≡ Some id → is_some (map.get m id) ≡ true
  least_kept id is = ap is_some (get-entries m id) ∙ find_kept (λ x. nat_lt after x) (entries m) id is

  -- nothing is between
  pub least_first : (id : ℕ) → least_above m after ≡ Some id → (x : ℕ) → after < x → x < id → map.get m x ≡ None
  least_first id is x above below = cases (map.get m x) refl
    where
      cases : (o : Option X) → map.get m x ≡ o → map.get m x ≡ None
      cases None e = e
      cases (Some o) e =
          let p : nat_lt after x ≡ true = grind (arith, nat_tests, above) in
          let le = find_first (λ x. nat_lt after x) (entries m) id x o (entries_sorted m) is (sym (get-entries m x) ∙ e) p in
          absurd (omega (arith, le, below))

  -- nothing is above
  pub least_none : least_above m after ≡ None → (x : ℕ) → after < x → map.get m x ≡ None
  least_none is x above = cases (map.get m x) refl
    where
      cases : (o : Option X) → map.get m x ≡ o → map.get m x ≡ None
      cases None e = e
      cases (Some o) e =
          let p : nat_lt after x ≡ true = grind (arith, nat_tests, above) in
          absurd (find_none (λ x. nat_lt after x) (entries m) x o is (sym (get-entries m x) ∙ e) p)
