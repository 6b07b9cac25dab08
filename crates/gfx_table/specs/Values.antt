-- A map with each row changed or dropped, by a function of the id and the row.
use Rattle.std.specs.Prelude.{◌≡◌, ℕ, ◌≤◌, Bool, List, [], ◌∷◌, T, Option, Some, None, option_and_then, option_map, filter_map, if◌then◌else◌, refl}
use Rattle.std.proofs.Common.{ap, sym, ◌∙◌, arith}
use Rattle.std.specs.Ordering.{nat_cmp}
use Rattle.std.specs.FinMap as map
use Rattle.std.specs.FinMap.{FinMap, find, is_sorted, entries, entries_sorted, from_sorted, entries-from_sorted, get-from_sorted, get-entries}
use Rattle.std.specs.FinMap.Entries.{below_all}
use Rattle.std.proofs.lemmas.Bool.Decides.{nat_tests}

-- an id at or before the first has no later entry
pub none_above : {X : Type 0} (es : List (ℕ × X)) (q x : ℕ) → T (below_all nat_cmp x es) → q ≤ x → find nat_cmp q es ≡ None
none_above [] q x h le = refl
none_above (e ∷ es) q x h le =
    let rest : T (below_all nat_cmp x es) = grind (arith, nat_tests) in
    let none = none_above es q x rest le in
    grind (arith, nat_tests, none)

module _ {X Y : Type 0} (change : ℕ → X → Option Y) where
  -- the entry with its new row, where there is one
  abbrev pub changed : ℕ × X → Option (ℕ × Y)
  changed e = option_map (λ row. (e.0, row)) (change e.0 e.1)

  below-changed : (x : ℕ) (es : List (ℕ × X)) → T (below_all nat_cmp x es) → T (below_all nat_cmp x (filter_map changed es))
  below-changed x [] h = tt
  below-changed x (e ∷ es) h = let rest = below-changed x es in grind arith

  pub sorted-changed : (es : List (ℕ × X)) → T (is_sorted nat_cmp es) → T (is_sorted nat_cmp (filter_map changed es))
  sorted-changed [] h = tt
  sorted-changed (e ∷ es) h = let rest = sorted-changed es in let below = below-changed e.0 es in grind arith

  pub find-changed : (es : List (ℕ × X)) (q : ℕ) → T (is_sorted nat_cmp es) → find nat_cmp q (filter_map changed es) ≡ option_and_then (change q) (find nat_cmp q es)
  find-changed [] q h = refl
  find-changed (e ∷ es) q h =
      let below : T (below_all nat_cmp e.0 es) = grind arith in
      let tail : T (is_sorted nat_cmp es) = grind arith in
      let rest : find nat_cmp q (filter_map changed es) ≡ option_and_then (change q) (find nat_cmp q es) = find-changed es q tail in
      let none : find nat_cmp e.0 es ≡ None = none_above es e.0 e.0 below (omega arith) in
      let here : q ≡ e.0 → find nat_cmp q es ≡ None = λ s. rw s none in
      let same : q ≡ e.0 → change q e.1 ≡ change e.0 e.1 = λ s. rw s in
      grind (arith, nat_tests, here, same)

  -- the map with each row changed, or dropped where the function gives none
  pub with_rows : FinMap nat_cmp X → FinMap nat_cmp Y
  with_rows m = from_sorted (filter_map changed (entries m))

  pub get-with_rows : (m : FinMap nat_cmp X) (q : ℕ) → map.get (with_rows m) q ≡ option_and_then (change q) (map.get m q)
  unfolding with_rows
  get-with_rows m q =
      get-from_sorted nat_cmp (filter_map changed (entries m)) q (sorted-changed (entries m) (entries_sorted m))
      ∙ find-changed (entries m) q (entries_sorted m) ∙ ap (option_and_then (change q)) (sym (get-entries m q))

  pub entries-with_rows : (m : FinMap nat_cmp X) → entries (with_rows m) ≡ filter_map changed (entries m)
  unfolding with_rows
  entries-with_rows m = entries-from_sorted nat_cmp (filter_map changed (entries m)) (sorted-changed (entries m) (entries_sorted m))

-- the rows that pass
abbrev pub kept_rows : {X : Type 0} → (ℕ → X → Bool) → FinMap nat_cmp X → FinMap nat_cmp X
kept_rows p = with_rows (λ id row. if p id row then Some row else None)
