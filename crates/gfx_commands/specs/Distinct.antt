-- The ids of live objects are distinct, as the totals need them.
use Rattle.std.specs.Prelude.{◌≡◌, ℕ, true, false, List, [], ◌∷◌, T, map as each, refl}
use Rattle.std.proofs.Common.{arith}
use Rattle.std.specs.Ordering.{nat_cmp}
use Rattle.std.specs.FinMap as map
use Rattle.std.specs.FinMap.{FinMap, is_sorted, entries, entries_sorted}
use Rattle.std.specs.FinMap.Entries.{below_all}
use Rattle.std.proofs.lemmas.Bool.Decides.{nat_tests}
use Rattle.gfx_model.specs.Checks.{is_among, is_distinct}
use Rattle.gfx_objects.specs.Objects.{Kept, answers}

module _ {X : Type 0} where
  above_all : (es : List (ℕ × X)) (x : ℕ) → T (below_all nat_cmp x es) → is_among x (each (λ e. e.0) es) ≡ false
  above_all [] x below = refl
  above_all (e ∷ es) x below =
      let rest : T (below_all nat_cmp x es) = grind (arith, nat_tests) in
      let others = above_all es x rest in
      grind (arith, nat_tests, others)

  distinct_entries : (es : List (ℕ × X)) → T (is_sorted nat_cmp es) → is_distinct (each (λ e. e.0) es) ≡ true
  distinct_entries [] sorted = refl
  distinct_entries (e ∷ es) sorted =
      let below : T (below_all nat_cmp e.0 es) = grind arith in
      let tail : T (is_sorted nat_cmp es) = grind arith in
      let here = above_all es e.0 below in
      let rest = distinct_entries es tail in
      grind (arith, here, rest)

  pub is_distinct-keys : (m : FinMap nat_cmp X) → is_distinct (map.keys m) ≡ true
  is_distinct-keys m = distinct_entries (entries m) (entries_sorted m)

-- the ids of live objects are distinct
pub is_distinct-ids : (k : Kept) → is_distinct (answers k).ids ≡ true
unfolding answers
is_distinct-ids k = is_distinct-keys k.rows
