-- Which ids are marked once rows come or go.
use Rattle.std.proofs.Common.{◌≡◌, ℕ, ◌==◌, Bool, true, false, List, [], ◌∷◌, length, Option, None, Some, is_some, if◌then◌else◌, refl, arith, ap, sym, ◌∙◌}
use Rattle.std.proofs.lemmas.Bool.Decides.{nat_tests}
use Rattle.std.specs.Ordering.{nat_cmp}
use Rattle.std.specs.FinMap as map
use Rattle.std.specs.FinMap.{FinMap, entries, find, get-entries, len-entries}
use Rattle.gfx_table.specs.Rest.{mark_at, AreMarked}
use Rattle.gfx_table.specs.Rows.{got-insert, got-remove}

module _ {X : Type 0} where
  -- an id without a mark has no row
  pub unmarked : (marks : List Bool) (m : FinMap nat_cmp X) → AreMarked marks m → (id : ℕ) → mark_at marks id ≡ false → map.get m id ≡ None
  unmarked marks m are id off = by (map.get m id) refl
    where
      by : (o : Option X) → map.get m id ≡ o → map.get m id ≡ None
      by None none = none
      by (Some row) some = let on = are id (ap is_some some) in absurd (grind (arith, on, off))

  -- a row comes once its id is marked
  pub marked_insert : (marks more : List Bool) (m n : FinMap nat_cmp X) (id : ℕ) (row : X) → n ≡ map.insert m id row → mark_at more id ≡ true → ((other : ℕ) → mark_at marks other ≡ true → mark_at more other ≡ true)
      → AreMarked marks m → AreMarked more n
  marked_insert marks more m n id row is own others are q some = by (id == q) refl
    where
      put : map.get n q ≡ (if id == q then Some row else map.get m q)
      put = ap (λ k. map.get k q) is ∙ ap (λ f. f q) (got-insert m id row)

      by : (t : Bool) → (id == q) ≡ t → mark_at more q ≡ true
      by true same = let here : id ≡ q = grind (arith, nat_tests, same) in sym (ap (mark_at more) here) ∙ own
      by false other = others q (are q (grind (arith, other, put, some)))

  -- a row goes
  pub marked_remove : (marks : List Bool) (m n : FinMap nat_cmp X) (id : ℕ) → n ≡ map.remove m id → AreMarked marks m → AreMarked marks n
  marked_remove marks m n id is are q some =
      let gone = ap (λ k. map.get k q) is ∙ ap (λ f. f q) (got-remove m id) in
      are q (grind (arith, nat_tests, gone, some))

  -- no row needs a mark
  pub marked_none : (marks : List Bool) (m : FinMap nat_cmp X) → ((id : ℕ) → map.get m id ≡ None) → AreMarked marks m
  marked_none marks m none id some = let n = none id in absurd (grind (arith, n, some))

  -- of no rows none is found
  pub none_of_none : (m : FinMap nat_cmp X) → map.len m ≡ 0 → (id : ℕ) → map.get m id ≡ None
  none_of_none m none id = get-entries m id ∙ by (entries m) (sym (len-entries m) ∙ none)
    where
      by : (es : List (ℕ × X)) → length es ≡ 0 → find nat_cmp id es ≡ None
      by [] e = refl
      by (x ∷ es) e = absurd (omega arith)
