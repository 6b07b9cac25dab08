-- Where a search ends among rising entries, and what an edit there makes of the map.
use Rattle.std.proofs.Common.{◌≡◌, ℕ, zero, suc, ◌<◌, ◌≤◌, true, false, cond, T, List, [], ◌∷◌, length, get_or, set, Some, None, Result, Ok, Err, IfOk, IfErr, nat_lt, nat_le, refl, sym, ap, subst, ◌∙◌, arith}
use Rattle.std.specs.List.{insert, remove, find as first_passing}
use Rattle.std.specs.Prelude.{map as each}
use Rattle.std.specs.List.Sorted.{IsSearchInRange, IsBinarySearchResult, IsNonDecreasingBy, IsPartitionedBy, IsPartitionPoint}
use Rattle.std.specs.Ordering.{nat_cmp, ordering_index, eq_by_cmp}
use Rattle.std.specs.Cmp.{nat_cmp_total}
use Rattle.std.proofs.lemmas.Cmp.{ranked}
use Rattle.std.proofs.lemmas.Bool.Decides.{nat_tests}
use Rattle.std.proofs.lemmas.Grind.{common_steps}
use Rattle.std.specs.FinMap as map
use Rattle.std.specs.FinMap.{FinMap, find, put, entries, entries_sorted, same_entries_map, entries-from_sorted, entries-insert, get-from_sorted, get-remove, same_map, nat_cmp-IsAntisymmetric}
use Rattle.std.specs.FinMap.Entries.{below_all}
use Rattle.gfx_table.specs.Values.{none_above}
use Rattle.gfx_table.specs.Slots.{IsRising, map_of, place, IsFoundAt, IsMissingAt, IsEndAt, least_above}

module _ {X : Type 0} where
  -- the first id is below the others
  below_at : (x : ℕ) (es : List (ℕ × X)) → T (below_all nat_cmp x es) → (j : ℕ) (d : ℕ × X) → j < length es → x < (get_or es j d).0
  below_at x [] h j d lt = absurd (omega arith)
  below_at x (e ∷ es) h zero d lt = grind (arith, nat_tests)
  below_at x (e ∷ es) h (suc j) d lt =
      let rest : T (below_all nat_cmp x es) = grind (arith, nat_tests) in
      below_at x es rest j d (omega arith)

  rising_head : (e : ℕ × X) (es : List (ℕ × X)) → IsRising (e ∷ es) → T (below_all nat_cmp e.0 es)
  rising_head e es h = grind (arith)

  rising_tail : (e : ℕ × X) (es : List (ℕ × X)) → IsRising (e ∷ es) → IsRising es
  rising_tail e es h = grind (arith)

  rising_at : (es : List (ℕ × X)) → IsRising es → (i j : ℕ) (d : ℕ × X) → i ≤ j → j < length es → (get_or es i d).0 ≤ (get_or es j d).0
  rising_at [] h i j d le lt = absurd (omega arith)
  rising_at (e ∷ es) h zero zero d le lt = omega arith
  rising_at (e ∷ es) h zero (suc j) d le lt = let below = below_at e.0 es (rising_head e es h) j d (omega arith) in omega arith
  rising_at (e ∷ es) h (suc i) zero d le lt = absurd (omega arith)
  rising_at (e ∷ es) h (suc i) (suc j) d le lt = rising_at es (rising_tail e es h) i j d (omega arith) (omega arith)

  comparisons_rise : (es : List (ℕ × X)) (id : ℕ) → IsRising es → IsNonDecreasingBy (λ e. ordering_index (nat_cmp e.0 id)) es
  comparisons_rise es id h i j d le lt = let rise = rising_at es h i j d le lt in grind (arith, nat_tests)

  found_place : (es : List (ℕ × X)) (id i : ℕ) → IsRising es → i < length es → ((d : ℕ × X) → (get_or es i d).0 ≡ id) → IsFoundAt es id i
  found_place [] id i h lt same = absurd (omega arith)
  found_place (e ∷ es) id zero h lt same =
      let here : e.0 ≡ id = same e in
      record { in_range = lt; is_place = grind (arith, nat_tests); value = λ d. grind (arith, nat_tests); same_id = same }
  found_place (e ∷ es) id (suc i) h lt same =
      let rest : IsFoundAt es id i = found_place es id i (rising_tail e es h) (omega arith) same in
      let above : e.0 < (get_or es i e).0 = below_at e.0 es (rising_head e es h) i e (omega arith) in
      let here : (get_or es i e).0 ≡ id = rest.same_id e in
      let at : place id es ≡ i = rest.is_place in
      record { in_range = lt; is_place = grind (arith, nat_tests); value = λ d. let v = rest.value d in grind (arith, nat_tests); same_id = same }

  missing_place : (es : List (ℕ × X)) (id i : ℕ) → i ≤ length es
      → ((j : ℕ) (d : ℕ × X) → j < i → (get_or es j d).0 < id) → ((j : ℕ) (d : ℕ × X) → i ≤ j → j < length es → id < (get_or es j d).0) → IsMissingAt es id i
  missing_place [] id i le smaller greater = record { in_range = le; is_place = omega arith; missing = refl }
  missing_place (e ∷ es) id zero le smaller greater =
      let rest : IsMissingAt es id 0 = missing_place es id 0 (omega arith) (λ j d lt. absurd (omega arith)) (λ j d le lt. greater (suc j) d (omega arith) (omega arith)) in
      let above : id < e.0 = greater 0 e (omega arith) (omega arith) in
      let gone : find nat_cmp id es ≡ None = rest.missing in
      record { in_range = le; is_place = grind (arith, nat_tests); missing = grind (arith, nat_tests) }
  missing_place (e ∷ es) id (suc i) le smaller greater =
      let rest : IsMissingAt es id i = missing_place es id i (omega arith) (λ j d lt. smaller (suc j) d (omega arith)) (λ j d le lt. greater (suc j) d (omega arith) (omega arith)) in
      let below : e.0 < id = smaller 0 e (omega arith) in
      let at : place id es ≡ i = rest.is_place in
      let gone : find nat_cmp id es ≡ None = rest.missing in
      record { in_range = le; is_place = grind (arith, nat_tests); missing = grind (arith, nat_tests) }

  pub searched : (es : List (ℕ × X)) (id : ℕ) → IsRising es → (r : Result ℕ ℕ) → IsSearchInRange r (length es) → IsBinarySearchResult (λ e. nat_cmp e.0 id) es r
      → record { found : IfOk r (IsFoundAt es id); missing : IfErr r (IsMissingAt es id) }
  searched es id h (Ok at) in_range equal = record { found = found_place es id at h in_range (λ d. ranked _ id _ (sym (equal d))); missing = tt }
  searched es id h (Err at) in_range parted = record {
    found = tt;
    missing = missing_place es id at in_range
        (λ j d lt. ranked _ id _ (sym ((parted (comparisons_rise es id h)).0 j d (omega arith) lt)))
        (λ j d le lt. ranked _ id _ (sym ((parted (comparisons_rise es id h)).1 j d le lt)));
  }

  -- an entry put in its place
  insert_put : (es : List (ℕ × X)) (id i : ℕ) (v : X) → place id es ≡ i → find nat_cmp id es ≡ None → insert es i (id, v) ≡ put nat_cmp id v es
  insert_put [] id i v at gone = grind (arith, common_steps)
  insert_put (e ∷ es) id zero v at gone = grind (arith, nat_tests)
  insert_put (e ∷ es) id (suc i) v at gone =
      let below : e.0 < id = grind (arith, nat_tests) in
      let deeper : place id es ≡ i = grind (arith, nat_tests) in
      let none : find nat_cmp id es ≡ None = grind (arith, nat_tests) in
      let rest = insert_put es id i v deeper none in
      grind (arith, nat_tests)

  set_put : (es : List (ℕ × X)) (id i : ℕ) (v : X) → i < length es → place id es ≡ i → ((d : ℕ × X) → (get_or es i d).0 ≡ id) → set es i (id, v) ≡ put nat_cmp id v es
  set_put [] id i v lt at same = absurd (omega arith)
  set_put (e ∷ es) id zero v lt at same = let here : e.0 ≡ id = same e in grind (arith, nat_tests)
  set_put (e ∷ es) id (suc i) v lt at same =
      let below : e.0 < id = grind (arith, nat_tests) in
      let deeper : place id es ≡ i = grind (arith, nat_tests) in
      let rest = set_put es id i v (omega arith) deeper same in
      grind (arith, nat_tests)

  -- the map of a list that is a map's entries
  pub map_of-entries : (m : FinMap nat_cmp X) (es : List (ℕ × X)) → es ≡ entries m → (map_of es ≡ m) × IsRising es
  map_of-entries m es e =
      let rising : IsRising es = subst (λ l. IsRising l) (sym e) (entries_sorted m) in
      (same_entries_map (map_of es) m (entries-from_sorted nat_cmp es rising ∙ e), rising)

  put_insert : (es : List (ℕ × X)) (id : ℕ) (v : X) → IsRising es → put nat_cmp id v es ≡ entries (map.insert (map_of es) id v)
  put_insert es id v h = ap (put nat_cmp id v) (sym (entries-from_sorted nat_cmp es h)) ∙ sym (entries-insert nat_cmp_total (map_of es) id v)

  pub inserted : (es : List (ℕ × X)) (id i : ℕ) (v : X) → IsRising es → IsMissingAt es id i → (map_of (insert es i (id, v)) ≡ map.insert (map_of es) id v) × IsRising (insert es i (id, v))
  inserted es id i v h gap = map_of-entries _ _ (insert_put es id i v gap.is_place gap.missing ∙ put_insert es id v h)

  pub written : (es : List (ℕ × X)) (id i : ℕ) (v : X) → IsRising es → IsFoundAt es id i → (map_of (set es i (id, v)) ≡ map.insert (map_of es) id v) × IsRising (set es i (id, v))
  written es id i v h found = map_of-entries _ _ (set_put es id i v found.in_range found.is_place found.same_id ∙ put_insert es id v h)

  pub get_found : (es : List (ℕ × X)) (id i : ℕ) (r : ℕ × X) → IsRising es → IsFoundAt es id i → r ≡ get_or es i r → Some r.1 ≡ map.get (map_of es) id
  get_found es id i r h found e = sym (get-from_sorted nat_cmp es id h ∙ found.value r ∙ sym (ap (λ x. Some x.1) e))

  pub get_missing : (es : List (ℕ × X)) (id i : ℕ) → IsRising es → IsMissingAt es id i → None ≡ map.get (map_of es) id
  get_missing es id i h gap = sym (get-from_sorted nat_cmp es id h ∙ gap.missing)

  -- what is taken away leaves the rest below
  below_remove : (x : ℕ) (es : List (ℕ × X)) (i : ℕ) → T (below_all nat_cmp x es) → T (below_all nat_cmp x (remove es i))
  below_remove x [] i h = grind (arith, common_steps)
  below_remove x (e ∷ es) zero h = grind (arith, nat_tests)
  below_remove x (e ∷ es) (suc i) h =
      let rest : T (below_all nat_cmp x es) = grind (arith, nat_tests) in
      let fewer = below_remove x es i rest in
      grind (arith, nat_tests)

  rising_remove : (es : List (ℕ × X)) (i : ℕ) → IsRising es → IsRising (remove es i)
  rising_remove [] i h = grind (arith, common_steps)
  rising_remove (e ∷ es) zero h = rising_tail e es h
  rising_remove (e ∷ es) (suc i) h =
      let below = below_remove e.0 es i (rising_head e es h) in
      let fewer = rising_remove es i (rising_tail e es h) in
      grind arith

  find_remove : (es : List (ℕ × X)) (id i : ℕ) → IsRising es → i < length es → place id es ≡ i → ((d : ℕ × X) → (get_or es i d).0 ≡ id)
      → (q : ℕ) → find nat_cmp q (remove es i) ≡ cond (eq_by_cmp nat_cmp q id) None (find nat_cmp q es)
  find_remove [] id i h lt at same q = absurd (omega arith)
  find_remove (e ∷ es) id zero h lt at same q =
      let here : e.0 ≡ id = same e in
      let none : find nat_cmp e.0 es ≡ None = none_above es e.0 e.0 (rising_head e es h) (omega arith) in
      let other : (q ≡ e.0) → find nat_cmp q es ≡ None = λ p. rw p none in
      grind (arith, nat_tests, other)
  find_remove (e ∷ es) id (suc i) h lt at same q =
      let below : e.0 < id = grind (arith, nat_tests) in
      let deeper : place id es ≡ i = grind (arith, nat_tests) in
      let rest = find_remove es id i (rising_tail e es h) (omega arith) deeper same q in
      grind (arith, nat_tests)

  pub removed : (es : List (ℕ × X)) (id i : ℕ) → IsRising es → IsFoundAt es id i → (map_of (remove es i) ≡ map.remove (map_of es) id) × IsRising (remove es i)
  removed es id i h found =
      let rising : IsRising (remove es i) = rising_remove es i h in (
        same_map nat_cmp_total nat_cmp-IsAntisymmetric (map_of (remove es i)) (map.remove (map_of es) id)
            (λ q. get-from_sorted nat_cmp (remove es i) q rising
            ∙ find_remove es id i h found.in_range found.is_place found.same_id q
            ∙ ap (cond (eq_by_cmp nat_cmp q id) None) (sym (get-from_sorted nat_cmp es q h))
            ∙ sym (get-remove nat_cmp_total (map_of es) id q)),
        rising,
      )

  pub remove_missing : (m : FinMap nat_cmp X) (id : ℕ) → None ≡ map.get m id → m ≡ map.remove m id
  remove_missing m id none = same_map nat_cmp_total nat_cmp-IsAntisymmetric m (map.remove m id)
      (λ q. let other : q ≡ id → map.get m q ≡ None = λ p. rw p (sym none) in
      let by = get-remove nat_cmp_total m id q in
      grind (arith, nat_tests, other))

  pub len_map_of : (es : List (ℕ × X)) → IsRising es → length es ≡ map.len (map_of es)
  len_map_of es h = ap length (sym (entries-from_sorted nat_cmp es h)) ∙ sym (map.len-entries (map_of es))

  pub map_of-empty : (es : List (ℕ × X)) → es ≡ [] → map_of es ≡ map.empty
  map_of-empty es e =
      let rising : IsRising es = rw e tt in
      map.empty_of_len (map_of es) (sym (len_map_of es rising) ∙ ap length e)

  tail_end : (e : ℕ × X) (es : List (ℕ × X)) (after i : ℕ) → IsEndAt (e ∷ es) after (suc i) → IsEndAt es after i
  tail_end e es after i end = record {
    in_range = let le = end.in_range in omega arith;
    up_to = λ j d lt. end.up_to (suc j) d (omega arith);
    above = λ j d le lt. end.above (suc j) d (omega arith) (omega arith);
  }

  -- where the ids up to the given one end, the first above it stands
  above_found : (es : List (ℕ × X)) (after i : ℕ) (d : ℕ × X) → IsEndAt es after i → i < length es → first_passing (λ id. nat_lt after id) (each (λ e. e.0) es) ≡ Some (get_or es i d).0
  above_found [] after i d end lt = absurd (omega arith)
  above_found (e ∷ es) after zero d end lt = let here : after < e.0 = end.above 0 e (omega arith) (omega arith) in grind (arith, nat_tests)
  above_found (e ∷ es) after (suc i) d end lt =
      let here : e.0 ≤ after = end.up_to 0 e (omega arith) in
      let rest = above_found es after i d (tail_end e es after i end) (omega arith) in
      grind (arith, nat_tests)

  above_none : (es : List (ℕ × X)) (after i : ℕ) → IsEndAt es after i → length es ≤ i → first_passing (λ id. nat_lt after id) (each (λ e. e.0) es) ≡ None
  above_none [] after i end le = refl
  above_none (e ∷ es) after zero end le = absurd (omega arith)
  above_none (e ∷ es) after (suc i) end le =
      let here : e.0 ≤ after = end.up_to 0 e (omega arith) in
      let rest = above_none es after i (tail_end e es after i end) (omega arith) in
      grind (arith, nat_tests)

  pub keys_of_rising : (es : List (ℕ × X)) → IsRising es → map.keys (map_of es) ≡ each (λ e. e.0) es
  keys_of_rising es h = ap (each (λ e. e.0)) (entries-from_sorted nat_cmp es h)

  -- what partition_point asks of the ids
  pub parted_by_id : (es : List (ℕ × X)) (after : ℕ) → IsRising es → IsPartitionedBy (λ e. nat_le e.0 after) es
  parted_by_id es after h i j d le lt passes = let rise = rising_at es h i j d le lt in grind (arith, nat_tests)

  pub next_found : (es : List (ℕ × X)) (after i : ℕ) (d : ℕ × X) → IsRising es → IsEndAt es after i → i < length es → Some (get_or es i d).0 ≡ least_above (map_of es) after
  next_found es after i d h end lt = sym (ap (first_passing (λ id. nat_lt after id)) (keys_of_rising es h) ∙ above_found es after i d end lt)

  pub next_missing : (es : List (ℕ × X)) (after i : ℕ) → IsRising es → IsEndAt es after i → length es ≤ i → None ≡ least_above (map_of es) after
  next_missing es after i h end le = sym (ap (first_passing (λ id. nat_lt after id)) (keys_of_rising es h) ∙ above_none es after i end le)

  pub ended : (es : List (ℕ × X)) (id i : ℕ) → i ≤ length es → IsPartitionPoint (λ e. nat_le e.0 id ≡ true) (λ e. nat_le e.0 id ≡ false) es i → IsEndAt es id i
  ended es id i le parted = record {
    in_range = le;
    up_to = λ j d lt. let passes = parted.0 j d (omega arith) lt in grind (arith, nat_tests);
    above = λ j d le lt. let fails = parted.1 j d le lt in grind (arith, nat_tests);
  }
