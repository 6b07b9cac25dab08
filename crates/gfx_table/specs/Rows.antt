-- Laws of maps from ids to rows: the ids in order, sums over the rows, and going over the ids above a given one.
use Rattle.std.specs.Prelude.{◌≡◌, ℕ, ◌+◌, ◌<◌, ◌≤◌, ◌==◌, true, List, [], ◌∷◌, ◌++◌, T, Option, Some, None, is_some, option_and_then, option_map, filter_map, filter, find, map as each, sum_by, nat_lt, nat_le, if◌then◌else◌, refl}
use Rattle.std.specs.Option.{option_map_or}
use Rattle.std.specs.List.{cons_option}
use Rattle.std.proofs.Common.{ap, sym, ◌∙◌, arith, zero-add}
use Rattle.std.proofs.lemmas.List.Sums.{sum_by-cons}
use Rattle.std.specs.Ordering.{nat_cmp}
use Rattle.std.specs.Cmp.{nat_cmp_total}
use Rattle.std.proofs.lemmas.Bool.Decides.{nat_tests}
use Rattle.std.specs.FinMap as map
use Rattle.std.specs.FinMap.{FinMap, put, is_sorted, entries, entries_sorted, entries-insert, get-entries, same_map, nat_cmp-IsAntisymmetric, get-insert, get-remove}
use Rattle.std.specs.FinMap.Entries.{below_all}
use Rattle.gfx_table.specs.Slots.{least_above}
use Rattle.gfx_table.specs.Values.{changed, none_above, with_rows, entries-with_rows}

-- ---- the ids

-- an id put into a rising list
abbrev pub in_order : ℕ → List ℕ → List ℕ
in_order x [] = x ∷ []
in_order x (y ∷ ys) = if nat_le x y then x ∷ y ∷ ys else y ∷ in_order x ys

-- the ids, rising
abbrev pub ids : {X : Type 0} → FinMap nat_cmp X → List ℕ
ids m = map.keys m

-- the sum of what the rows weigh
abbrev pub total : {X : Type 0} → (ℕ → X → ℕ) → FinMap nat_cmp X → ℕ
total weigh m = sum_by (λ e. weigh e.0 e.1) (entries m)

-- what the row under an id weighs, 0 where there is none
abbrev pub weight : {X : Type 0} → (ℕ → X → ℕ) → FinMap nat_cmp X → ℕ → ℕ
weight weigh m id = option_map_or (weigh id) (map.get m id) 0

-- where no id above the given one is found, there is none above it
end_list : (ks : List ℕ) (after : ℕ) → find (λ id. nat_lt after id) ks ≡ None → filter (λ id. nat_lt after id) ks ≡ []
end_list [] after none = refl
end_list (k ∷ ks) after none = let rest = end_list ks after in grind (arith, nat_tests, rest)

module _ {X : Type 0} where
  pub same_rows : (m n : FinMap nat_cmp X) → ((id : ℕ) → map.get m id ≡ map.get n id) → m ≡ n
  same_rows m n same = same_map nat_cmp_total nat_cmp-IsAntisymmetric m n same

  -- ---- look-ups, as functions of the id

  insert_at : (m : FinMap nat_cmp X) (id : ℕ) (row : X) (q : ℕ) → map.get (map.insert m id row) q ≡ (if id == q then Some row else map.get m q)
  insert_at m id row q = let a = get-insert nat_cmp_total m id row q in grind (arith, nat_tests, a)

  pub got-insert : (m : FinMap nat_cmp X) (id : ℕ) (row : X) → map.get (map.insert m id row) ≡ (λ q. if id == q then Some row else map.get m q)
  got-insert m id row = λ i q. (insert_at m id row q) i

  remove_at : (m : FinMap nat_cmp X) (id q : ℕ) → map.get (map.remove m id) q ≡ (if id == q then None else map.get m q)
  remove_at m id q = let a = get-remove nat_cmp_total m id q in grind (arith, nat_tests, a)

  pub got-remove : (m : FinMap nat_cmp X) (id : ℕ) → map.get (map.remove m id) ≡ (λ q. if id == q then None else map.get m q)
  got-remove m id = λ i q. (remove_at m id q) i

  -- of two rows put under one id the later stands
  pub insert_again : (m : FinMap nat_cmp X) (id : ℕ) (first second : X) → map.insert (map.insert m id first) id second ≡ map.insert m id second
  insert_again m id first second = same_rows _ _ (λ q.
      let a = insert_at (map.insert m id first) id second q in
      let b = insert_at m id first q in
      let c = insert_at m id second q in
      grind (arith, nat_tests, a, b, c))

  -- a row that isn't there is taken out
  pub remove_none : (m : FinMap nat_cmp X) (id : ℕ) → map.get m id ≡ None → map.remove m id ≡ m
  remove_none m id none = same_rows _ _ (λ q.
      let a = remove_at m id q in
      let here : id ≡ q → map.get m id ≡ map.get m q = ap (map.get m) in
      grind (arith, nat_tests, a, here, none))

  -- a row that is there is put there
  pub insert_same : (m : FinMap nat_cmp X) (id : ℕ) (row : X) → map.get m id ≡ Some row → map.insert m id row ≡ m
  insert_same m id row is = same_rows _ _ (λ q.
      let a = insert_at m id row q in
      let here : id ≡ q → map.get m id ≡ map.get m q = ap (map.get m) in
      grind (arith, nat_tests, a, here, is))

  -- a row that is taken out and put back
  pub insert_back : (m : FinMap nat_cmp X) (id : ℕ) (row : X) → map.get m id ≡ Some row → map.insert (map.remove m id) id row ≡ m
  insert_back m id row is = same_rows _ _ (λ q.
      let a = insert_at (map.remove m id) id row q in
      let b = remove_at m id q in
      let here : id ≡ q → map.get m id ≡ map.get m q = ap (map.get m) in
      grind (arith, nat_tests, a, b, here, is))

  ids-put : (es : List (ℕ × X)) (id : ℕ) (row : X) → map.find nat_cmp id es ≡ None → each (λ e. e.0) (put nat_cmp id row es) ≡ in_order id (each (λ e. e.0) es)
  ids-put [] id row none = refl
  ids-put (e ∷ es) id row none = let rest = ids-put es id row in grind (arith, nat_tests)

  pub ids-insert_new : (m : FinMap nat_cmp X) (id : ℕ) (row : X) → map.get m id ≡ None → ids (map.insert m id row) ≡ in_order id (ids m)
  ids-insert_new m id row none = ap (each (λ e. e.0)) (entries-insert nat_cmp_total m id row) ∙ ids-put (entries m) id row (sym (get-entries m id) ∙ none)

  ids-put_over : (es : List (ℕ × X)) (id : ℕ) (row : X) → T (is_sorted nat_cmp es) → is_some (map.find nat_cmp id es) ≡ true → each (λ e. e.0) (put nat_cmp id row es) ≡ each (λ e. e.0) es
  ids-put_over [] id row h some = cc
  ids-put_over (e ∷ es) id row h some =
      let below : T (below_all nat_cmp e.0 es) = grind arith in
      let tail : T (is_sorted nat_cmp es) = grind arith in
      let rest = ids-put_over es id row tail in
      let none = none_above es id e.0 below in
      grind (arith, nat_tests, rest, none)

  pub ids-insert_over : (m : FinMap nat_cmp X) (id : ℕ) (row : X) → is_some (map.get m id) ≡ true → ids (map.insert m id row) ≡ ids m
  ids-insert_over m id row some =
      ap (each (λ e. e.0)) (entries-insert nat_cmp_total m id row) ∙ ids-put_over (entries m) id row (entries_sorted m) (ap is_some (sym (get-entries m id)) ∙ some)

  -- ---- each entry is what a look-up finds

  -- each entry is what a look-up of its id finds
  abbrev Looks : (ℕ → Option X) → List (ℕ × X) → Type 0
  Looks look [] = Unit {0}
  Looks look (e ∷ es) = (look e.0 ≡ Some e.1) × Looks look es

  looks_past : (e : ℕ × X) (all es : List (ℕ × X)) → T (below_all nat_cmp e.0 es) → Looks (λ q. map.find nat_cmp q all) es → Looks (λ q. map.find nat_cmp q (e ∷ all)) es
  looks_past e all [] below h = tt
  looks_past e all (d ∷ es) below h =
      let rest : T (below_all nat_cmp e.0 es) = grind (arith, nat_tests) in
      let here = h.0 in
      (grind (arith, nat_tests, here), looks_past e all es rest h.1)

  looks_itself : (es : List (ℕ × X)) → T (is_sorted nat_cmp es) → Looks (λ q. map.find nat_cmp q es) es
  looks_itself [] h = tt
  looks_itself (e ∷ es) h =
      let below : T (below_all nat_cmp e.0 es) = grind arith in
      let tail : T (is_sorted nat_cmp es) = grind arith in
      (grind (arith, nat_tests), looks_past e es es below (looks_itself es tail))

  looks_map : (m : FinMap nat_cmp X) → Looks (map.get m) (entries m)
  looks_map m = along (entries m) (looks_itself (entries m) (entries_sorted m))
    where
      along : (es : List (ℕ × X)) → Looks (λ q. map.find nat_cmp q (entries m)) es → Looks (map.get m) es
      along [] h = tt
      along (e ∷ es) h = (get-entries m e.0 ∙ h.0, along es h.1)

  -- ---- sums

  sum_rows : (ℕ → X → ℕ) → List (ℕ × X) → ℕ
  sum_rows weigh es = sum_by (λ e. weigh e.0 e.1) es

  sum_rows-cons : (weigh : ℕ → X → ℕ) (e : ℕ × X) (es : List (ℕ × X)) → sum_rows weigh (e ∷ es) ≡ weigh e.0 e.1 + sum_rows weigh es
  unfolding sum_rows
  sum_rows-cons weigh e es = sum_by-cons (λ e. weigh e.0 e.1) e es

  sum_rows-none : (weigh : ℕ → X → ℕ) → sum_rows weigh [] ≡ 0
  unfolding sum_rows
  sum_rows-none weigh = refl

  total_put : (weigh : ℕ → X → ℕ) (es : List (ℕ × X)) (id : ℕ) (row : X) → T (is_sorted nat_cmp es)
      → sum_rows weigh (put nat_cmp id row es) + option_map_or (weigh id) (map.find nat_cmp id es) 0 ≡ sum_rows weigh es + weigh id row
  total_put weigh [] id row h = let one = sum_rows-cons weigh (id, row) [] in omega (arith, one, sum_rows-none weigh)
  total_put weigh (e ∷ es) id row h =
      let below : T (below_all nat_cmp e.0 es) = grind arith in
      let tail : T (is_sorted nat_cmp es) = grind arith in
      let rest = total_put weigh es id row tail in
      let none = none_above es id e.0 below in
      let same : id ≡ e.0 → weigh id e.1 ≡ weigh e.0 e.1 = λ p. rw p in
      let same_row : id ≡ e.0 → weigh id row ≡ weigh e.0 row = λ p. rw p in
      let a = sum_rows-cons weigh (id, row) (e ∷ es) in
      let b = sum_rows-cons weigh (e.0, row) es in
      let c = sum_rows-cons weigh e (put nat_cmp id row es) in
      let d = sum_rows-cons weigh e es in
      grind (arith, nat_tests, rest, none, same, same_row, a, b, c, d)

  pub total-insert : (weigh : ℕ → X → ℕ) (m : FinMap nat_cmp X) (id : ℕ) (row : X) → total weigh (map.insert m id row) + weight weigh m id ≡ total weigh m + weigh id row
  unfolding sum_rows
  total-insert weigh m id row =
      ap (λ es. sum_rows weigh es + weight weigh m id) (entries-insert nat_cmp_total m id row)
      ∙ ap (λ o. sum_rows weigh (put nat_cmp id row (entries m)) + option_map_or (weigh id) o 0) (get-entries m id)
      ∙ total_put weigh (entries m) id row (entries_sorted m)

  pub total-remove : (weigh : ℕ → X → ℕ) (m : FinMap nat_cmp X) (id : ℕ) → total weigh (map.remove m id) + weight weigh m id ≡ total weigh m
  total-remove weigh m id = cases (map.get m id) refl
    where
      cases : (o : Option X) → map.get m id ≡ o → total weigh (map.remove m id) + weight weigh m id ≡ total weigh m
      cases None none =
          let same : map.remove m id ≡ m = same_rows _ _ (λ q.
          let a = remove_at m id q in
          let here : q ≡ id → map.get m q ≡ None = λ p. rw p none in
          grind (arith, nat_tests, a, here)) in
          let nothing : weight weigh m id ≡ 0 = ap (λ o. option_map_or (weigh id) o 0) none in
          let kept = ap (total weigh) same in
          omega (arith, nothing, kept)
      cases (Some row) some =
          let back : map.insert (map.remove m id) id row ≡ m = same_rows _ _ (λ q.
          let a = insert_at (map.remove m id) id row q in
          let b = remove_at m id q in
          let here : q ≡ id → map.get m q ≡ Some row = λ p. rw p some in
          grind (arith, nat_tests, a, b, here)) in
          let none : map.get (map.remove m id) id ≡ None = let a = remove_at m id id in grind (arith, nat_tests, a) in
          let gone : weight weigh (map.remove m id) id ≡ 0 = ap (λ o. option_map_or (weigh id) o 0) none in
          let what : weight weigh m id ≡ weigh id row = ap (λ o. option_map_or (weigh id) o 0) some in
          let put_back = total-insert weigh (map.remove m id) id row in
          let whole = ap (total weigh) back in
          omega (arith, gone, what, put_back, whole)

  -- the sum over the ids, each by its look-up
  total_ids : (weigh : ℕ → X → ℕ) (look : ℕ → Option X) (es : List (ℕ × X)) → Looks look es → sum_by (λ e. weigh e.0 e.1) es ≡ sum_by (λ id. option_map_or (weigh id) (look id) 0) (each (λ e. e.0) es)
  total_ids weigh look [] h = refl
  total_ids weigh look (e ∷ es) h =
      let rest = total_ids weigh look es h.1 in
      let here = ap (λ o. option_map_or (weigh e.0) o 0) h.0 in
      let a = sum_by-cons (λ e. weigh e.0 e.1) e es in
      let b = sum_by-cons (λ id. option_map_or (weigh id) (look id) 0) e.0 (each (λ e. e.0) es) in
      a ∙ ap (λ n. weigh e.0 e.1 + n) rest ∙ ap (λ n. n + sum_by (λ id. option_map_or (weigh id) (look id) 0) (each (λ e. e.0) es)) (sym here) ∙ sym b

  pub total-by_ids : (weigh : ℕ → X → ℕ) (m : FinMap nat_cmp X) → total weigh m ≡ sum_by (weight weigh m) (ids m)
  total-by_ids weigh m = total_ids weigh (map.get m) (entries m) (looks_map m)

  -- ---- the ids above a given one

  -- the ids above the given one, rising
  abbrev pub ids_above : ℕ → FinMap nat_cmp X → List ℕ
  ids_above after m = filter (λ id. nat_lt after id) (ids m)

  all_but_zero : (es : List (ℕ × X)) → map.find nat_cmp 0 es ≡ None → filter (λ id. nat_lt 0 id) (each (λ e. e.0) es) ≡ each (λ e. e.0) es
  all_but_zero [] none = refl
  all_but_zero (e ∷ es) none = let rest = all_but_zero es in grind (arith, nat_tests, rest)

  -- all ids are above 0, where 0 is none of them
  pub above-zero : (m : FinMap nat_cmp X) → map.get m 0 ≡ None → ids_above 0 m ≡ ids m
  above-zero m none = all_but_zero (entries m) (sym (get-entries m 0) ∙ none)

  all_above : (es : List (ℕ × X)) (x y : ℕ) → T (below_all nat_cmp x es) → y ≤ x → filter (λ id. nat_lt y id) (each (λ e. e.0) es) ≡ each (λ e. e.0) es
  all_above [] x y h le = refl
  all_above (e ∷ es) x y h le =
      let rest : T (below_all nat_cmp x es) = grind (arith, nat_tests) in
      let all = all_above es x y rest le in
      grind (arith, nat_tests, all)

  zero_list : (es : List (ℕ × X)) → T (is_sorted nat_cmp es) → each (λ e. e.0) es ≡ (if is_some (map.find nat_cmp 0 es) then 0 ∷ [] else []) ++ filter (λ id. nat_lt 0 id) (each (λ e. e.0) es)
  zero_list [] h = refl
  zero_list (e ∷ es) h =
      let below : T (below_all nat_cmp e.0 es) = grind arith in
      let rest = all_above es e.0 0 below (omega arith) in
      let none = none_above es 0 e.0 below in
      grind (arith, nat_tests, rest, none)

  -- 0, where it is one of them, and then the ids above it
  pub zero_first : (m : FinMap nat_cmp X) → ids m ≡ (if is_some (map.get m 0) then 0 ∷ [] else []) ++ ids_above 0 m
  zero_first m = zero_list (entries m) (entries_sorted m) ∙ ap (λ o. (if is_some o then 0 ∷ [] else []) ++ ids_above 0 m) (sym (get-entries m 0))

  first_passes : (es : List (ℕ × X)) (after id : ℕ) → find (λ id. nat_lt after id) (each (λ e. e.0) es) ≡ Some id → after < id
  first_passes [] after id first = cc
  first_passes (e ∷ es) after id first = let rest = first_passes es after id in grind (arith, nat_tests, rest)

  step_list : (es : List (ℕ × X)) (after id : ℕ) → T (is_sorted nat_cmp es) → find (λ id. nat_lt after id) (each (λ e. e.0) es) ≡ Some id
      → filter (λ id. nat_lt after id) (each (λ e. e.0) es) ≡ id ∷ filter (λ other. nat_lt id other) (each (λ e. e.0) es)
  step_list [] after id h first = cc
  step_list (e ∷ es) after id h first =
      let below : T (below_all nat_cmp e.0 es) = grind arith in
      let tail : T (is_sorted nat_cmp es) = grind arith in
      let rest = step_list es after id tail in
      let above = first_passes es after id in
      let here = all_above es e.0 e.0 below (omega arith) in
      let there : after ≤ e.0 → filter (λ id. nat_lt after id) (each (λ e. e.0) es) ≡ each (λ e. e.0) es = all_above es e.0 after below in
      grind (arith, nat_tests, rest, above, here, there)

  -- the next id above is the first of those above, and the others are above it
  pub above-step : (m : FinMap nat_cmp X) (after id : ℕ) → least_above m after ≡ Some id → ids_above after m ≡ id ∷ ids_above id m
  above-step m after id next = step_list (entries m) after id (entries_sorted m) next

  pub above-end : (m : FinMap nat_cmp X) (after : ℕ) → least_above m after ≡ None → ids_above after m ≡ []
  above-end m after none = end_list (ids m) after none

  pub least_above-higher : (m : FinMap nat_cmp X) (after id : ℕ) → least_above m after ≡ Some id → after < id
  least_above-higher m after id next = first_passes (entries m) after id next

-- ---- what a change of each row makes of them

module _ {X Y : Type 0} (change : ℕ → X → Option Y) where
  one_more : (weigh : ℕ → Y → ℕ) (e : ℕ × X) (o : Option Y) (es : List (ℕ × Y))
      → sum_by (λ e. weigh e.0 e.1) (cons_option (option_map (λ row. (e.0, row)) o) es) ≡ option_map_or (weigh e.0) o 0 + sum_by (λ e. weigh e.0 e.1) es
  one_more weigh e None es = sym (zero-add (sum_by (λ e. weigh e.0 e.1) es))
  one_more weigh e (Some row) es = sum_by-cons (λ e. weigh e.0 e.1) (e.0, row) es

  total_changed : (weigh : ℕ → Y → ℕ) (es : List (ℕ × X)) → sum_by (λ e. weigh e.0 e.1) (filter_map (changed change) es) ≡ sum_by (λ e. option_map_or (weigh e.0) (change e.0 e.1) 0) es
  total_changed weigh [] = refl
  total_changed weigh (e ∷ es) =
      one_more weigh e (change e.0 e.1) (filter_map (changed change) es)
      ∙ ap (λ n. option_map_or (weigh e.0) (change e.0 e.1) 0 + n) (total_changed weigh es)
      ∙ sym (sum_by-cons (λ e. option_map_or (weigh e.0) (change e.0 e.1) 0) e es)

  ids_changed : (look : ℕ → Option X) (es : List (ℕ × X)) → Looks look es
      → each (λ e. e.0) (filter_map (changed change) es) ≡ filter (λ id. is_some (option_and_then (change id) (look id))) (each (λ e. e.0) es)
  ids_changed look [] h = refl
  ids_changed look (e ∷ es) h = let rest = ids_changed look es h.1 in let here = ap (option_and_then (change e.0)) h.0 in grind (arith, rest, here)

  pub ids-with_rows : (m : FinMap nat_cmp X) → ids (with_rows change m) ≡ filter (λ id. is_some (option_and_then (change id) (map.get m id))) (ids m)
  ids-with_rows m = ap (each (λ e. e.0)) (entries-with_rows change m) ∙ ids_changed (map.get m) (entries m) (looks_map m)
