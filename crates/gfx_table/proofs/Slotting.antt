-- What the slots hold, and what a change of one slot makes of it.
use Rattle.std.proofs.Common.{◌≡◌, ◌≢◌, ℕ, zero, suc, ◌<◌, ◌==◌, if◌then◌else◌, is_some, ◌&&◌, Bool, true, false, List, [], ◌∷◌, ◌++◌, length, ◌+◌, bit_and, slice_set, slice_index_or, take, Option, Some, None, refl, sym, ap, ◌∙◌, arith}
use Rattle.std.specs.Option.{option_or}
use Rattle.std.specs.Ordering.{nat_cmp}
use Rattle.std.specs.Map.{lookup}
use Rattle.std.specs.BTreeMap.{is_at}
use Rattle.std.proofs.lemmas.Bool.Decides.{nat_tests}
use Rattle.std.proofs.lemmas.List.{get_or-set_same, get_or-set_other, get_or_default, take_more}
use Rattle.std.specs.FinMap as map
use Rattle.std.specs.FinMap.{FinMap, find}
use Rattle.gfx_table.specs.Joined.{joined}
use Rattle.gfx_table.specs.Slotted.{slot_at, row_in, filled, own_slot, IsInGroup, IsNowhere, CanTake, StandOnce, AreOwn, ArePlaced, IsSlotted}
use Rattle.gfx_table.specs.Rows.{got-remove, insert_back}
use Rattle.gfx_table.proofs.Sorting.{times, times_cons, times_append, keys_once, sorted_keys}
use Rattle.std.specs.Prelude.{map as each}
use Rattle.std.proofs.Common.{append_assoc}
use Rattle.std.specs.List.Sorted.{IsSorted, IsPermutation}
use Rattle.gfx_table.proofs.Joining.{lookup_find, find_append, get-joined, IsChanged, got, missing_in_list, insert_in_tree, insert_in_list, remove_in_tree, remove_in_list, apart_insert_tree, apart_insert_list, apart_remove_tree, apart_remove_list}

module _ {X : Type 0} where
  -- an id that is in no slot
  pub none_filled : (slots : List (Option (ℕ × X))) (q : ℕ) → ((i : ℕ) (e : ℕ × X) → slot_at slots i ≡ Some e → e.0 ≢ q) → find nat_cmp q (filled slots) ≡ None
  none_filled [] q without = refl
  none_filled (None ∷ slots) q without = none_filled slots q (λ i e is. without (suc i) e is)
  none_filled (Some e ∷ slots) q without =
      let rest = none_filled slots q (λ i e is. without (suc i) e is) in
      let other = without 0 e refl in
      grind (arith, nat_tests, rest, other)

  -- an id that is in no slot but this
  found : (slots : List (Option (ℕ × X))) (s q : ℕ) → ((i : ℕ) (e : ℕ × X) → slot_at slots i ≡ Some e → e.0 ≡ q → i ≡ s) → find nat_cmp q (filled slots) ≡ row_in (slot_at slots s) q
  found [] s q only = refl
  found (None ∷ slots) zero q only = none_filled slots q (λ i e is same. let at = only (suc i) e is same in omega (arith, at))
  found (None ∷ slots) (suc s) q only = found slots s q (λ i e is same. let at = only (suc i) e is same in omega (arith, at))
  found (Some e ∷ slots) zero q only =
      let rest : e.0 ≢ q → find nat_cmp q (filled slots) ≡ None = λ other. none_filled slots q (λ i e is same. let at = only (suc i) e is same in omega (arith, at)) in
      grind (arith, nat_tests, rest)
  found (Some e ∷ slots) (suc s) q only =
      let rest = found slots s q (λ i e is same. let at = only (suc i) e is same in omega (arith, at)) in
      let other : e.0 ≢ q = λ same. let at = only 0 e refl same in omega (arith, at) in
      grind (arith, nat_tests, rest, other)

  set_at : (slots : List (Option (ℕ × X))) (s i : ℕ) (w : Option (ℕ × X)) → s < length slots → slot_at (slice_set slots s w) i ≡ (if i == s then w else slot_at slots i)
  set_at slots s i w lt =
      let same = get_or-set_same slots s w None lt in
      let other = get_or-set_other slots s i w None in
      let here : i ≡ s → slot_at (slice_set slots s w) i ≡ slot_at (slice_set slots s w) s = λ p. ap (slot_at (slice_set slots s w)) p in
      grind (arith, nat_tests, same, other, here)

  -- ---- one slot is given something of an id, or nothing

  -- the id is in this slot, if it is in one
  abbrev pub StandsAt : List (Option (ℕ × X)) → ℕ → ℕ → Type 0
  StandsAt slots id s = (i : ℕ) (e : ℕ × X) → slot_at slots i ≡ Some e → e.0 ≡ id → i ≡ s

  -- what the slot has is of the id
  abbrev pub IsOf : Option (ℕ × X) → ℕ → Type 0
  IsOf o id = (e : ℕ × X) → o ≡ Some e → e.0 ≡ id

  stands_set : (slots : List (Option (ℕ × X))) (s id : ℕ) (w : Option (ℕ × X)) → s < length slots → StandsAt slots id s → StandsAt (slice_set slots s w) id s
  stands_set slots s id w lt only i e at same =
      let here = set_at slots s i w lt in
      let was = only i e in
      grind (arith, nat_tests, here, was, at, same)

  pub placed_set : (mask : ℕ) (slots : List (Option (ℕ × X))) (s id : ℕ) (w : Option (ℕ × X)) → ArePlaced mask slots → s < length slots → IsInGroup (bit_and id mask) s
      → StandsAt slots id s → IsOf w id → ArePlaced mask (slice_set slots s w)
  placed_set mask slots s id w placed lt within only mine = record {
    group = λ i e at. by i e at (i == s) refl (sym (set_at slots s i w lt) ∙ at);
    once = λ i j e f at_i at_j same.
        let here_i = set_at slots s i w lt in
        let here_j = set_at slots s j w lt in
        let was = placed.once i j e f in
        let mine_e = mine e in
        let mine_f = mine f in
        let only_i = only i e in
        let only_j = only j f in
        grind (arith, nat_tests, here_i, here_j, was, mine_e, mine_f, only_i, only_j, at_i, at_j, same);
  }
    where
      by : (i : ℕ) (e : ℕ × X) → slot_at (slice_set slots s w) i ≡ Some e → (t : Bool) → (i == s) ≡ t → (if t then w else slot_at slots i) ≡ Some e → IsInGroup (bit_and e.0 mask) i
      by i e at true is has =
          let low = within.from in
          let high = within.below in
          let alike : bit_and e.0 mask ≡ bit_and id mask = ap (λ n. bit_and n mask) (mine e has) in
          let here : i ≡ s = grind (arith, nat_tests, is) in
          record { from = omega (arith, low, alike, here); below = omega (arith, high, alike, here) }
      by i e at false is has = placed.group i e has

  row_other : (o : Option (ℕ × X)) (id q : ℕ) → IsOf o id → q ≢ id → row_in o q ≡ None
  row_other None id q own not = refl
  row_other (Some e) id q own not = let mine = own e refl in grind (arith, nat_tests, mine, not)

  row_own : (o : Option (ℕ × X)) (id : ℕ) (row : X) → o ≡ Some (id, row) → row_in o id ≡ Some row
  row_own o id row is = rw is (grind (arith, nat_tests))

  one_less : (o : Option (ℕ × X)) (slots : List (Option (ℕ × X))) (q : ℕ) → row_in o q ≡ None → find nat_cmp q (filled (o ∷ slots)) ≡ find nat_cmp q (filled slots)
  one_less None slots q none = refl
  one_less (Some e) slots q none = grind (arith, nat_tests, none)

  -- another id is found as before
  found_still : (slots : List (Option (ℕ × X))) (s q : ℕ) (w : Option (ℕ × X)) → row_in (slot_at slots s) q ≡ None → row_in w q ≡ None
      → find nat_cmp q (filled (slice_set slots s w)) ≡ find nat_cmp q (filled slots)
  found_still [] s q w was now = refl
  found_still (x ∷ slots) zero q w was now = one_less w slots q now ∙ sym (one_less x slots q was)
  found_still (None ∷ slots) (suc s) q w was now = found_still slots s q w was now
  found_still (Some e ∷ slots) (suc s) q w was now = let rest = found_still slots s q w was now in grind (arith, nat_tests, rest)

  pub changed : (slots : List (Option (ℕ × X))) (s id : ℕ) (w : Option (ℕ × X)) → s < length slots → StandsAt slots id s → IsOf (slot_at slots s) id → IsOf w id
      → IsChanged (filled slots) id (row_in w id) (filled (slice_set slots s w))
  changed slots s id w lt only own mine q =
      let new = slice_set slots s w in
      let a : lookup (is_at (nat_cmp q)) (filled new) ≡ find nat_cmp q (filled new) = lookup_find _ q in
      let b : lookup (is_at (nat_cmp q)) (filled slots) ≡ find nat_cmp q (filled slots) = lookup_find _ q in
      let there : q ≢ id → find nat_cmp q (filled new) ≡ find nat_cmp q (filled slots) = λ not. found_still slots s q w (row_other (slot_at slots s) id q own not) (row_other w id q mine not) in
      let here : q ≡ id → find nat_cmp q (filled new) ≡ row_in w id = λ p.
      ap (λ i. find nat_cmp i (filled new)) p ∙ found new s id (stands_set slots s id w lt only) ∙ ap (λ o. row_in o id) (get_or-set_same slots s w None lt) in
      grind (arith, nat_tests, a, b, there, here)

  put_changed : (slots : List (Option (ℕ × X))) (s id : ℕ) (row : X) → s < length slots → StandsAt slots id s → IsOf (slot_at slots s) id
      → IsChanged (filled slots) id (Some row) (filled (slice_set slots s (Some (id, row))))
  put_changed slots s id row lt only own = rw (row_own (Some (id, row)) id row refl) at (changed slots s id (Some (id, row)) lt only own (λ e p. grind (arith, p)))

  clear_changed : (slots : List (Option (ℕ × X))) (s id : ℕ) → s < length slots → StandsAt slots id s → IsOf (slot_at slots s) id
      → IsChanged (filled slots) id None (filled (slice_set slots s None))
  clear_changed slots s id lt only own = changed slots s id None lt only own (λ e p. cc)

  pub own_set : (mask : ℕ) (slots : List (Option (ℕ × X))) (s id : ℕ) (row : X) → AreOwn mask slots → s < length slots → s ≡ own_slot (bit_and id mask) id → AreOwn mask (slice_set slots s (Some (id, row)))
  own_set mask slots s id row own lt is i x at = by (i == s) refl (sym (set_at slots s i (Some (id, row)) lt) ∙ at)
    where
      by : (t : Bool) → (i == s) ≡ t → (if t then Some (id, row) else slot_at slots i) ≡ Some x → i ≡ own_slot (bit_and x.0 mask) x.0
      by true here has =
          let at_s : i ≡ s = grind (arith, nat_tests, here) in
          let same : id ≡ x.0 = grind (arith, has) in
          at_s ∙ is ∙ ap (λ n. own_slot (bit_and n mask) n) same
      by false here has = own i x has

  own_cleared : (mask : ℕ) (slots : List (Option (ℕ × X))) (s : ℕ) → AreOwn mask slots → s < length slots → AreOwn mask (slice_set slots s None)
  own_cleared mask slots s own lt i x at =
      let here = set_at slots s i None lt in
      own i x (grind (arith, nat_tests, here, at))

  -- ---- where an id stands

  has_row : (o : Option (ℕ × X)) (id : ℕ) (e : ℕ × X) → o ≡ Some e → e.0 ≡ id → row_in o id ≡ Some e.1
  has_row o id e is same = rw is (grind (arith, nat_tests, same))

  entry : (o : Option (ℕ × X)) (id : ℕ) → is_some (row_in o id) ≡ true → (e : ℕ × X) × (o ≡ Some e) × (e.0 ≡ id)
  entry None id has = cc
  entry (Some d) id has = (d, refl, grind (arith, nat_tests, has))

  owned : (o : Option (ℕ × X)) (id : ℕ) → is_some (row_in o id) ≡ true → IsOf o id
  owned None id has e is = cc
  owned (Some d) id has e is = let same : d ≡ e = grind (arith, is) in grind (arith, nat_tests, has, same)

  stands_there : (slots : List (Option (ℕ × X))) (s id : ℕ) → StandOnce slots → is_some (row_in (slot_at slots s) id) ≡ true → StandsAt slots id s
  stands_there slots s id once has i e at same = let d = entry (slot_at slots s) id has in once i s e d.0 at d.1 (same ∙ sym d.2)

  nowhere : (mask : ℕ) (slots : List (Option (ℕ × X))) (first id : ℕ) → ArePlaced mask slots → first ≡ bit_and id mask → IsNowhere slots first id
      → (i : ℕ) (e : ℕ × X) → slot_at slots i ≡ Some e → e.0 ≢ id
  nowhere mask slots first id placed is none i e at same =
      let within = placed.group i e at in
      let low = within.from in
      let high = within.below in
      let alike : bit_and e.0 mask ≡ bit_and id mask = ap (λ n. bit_and n mask) same in
      let gone = none i (record { from = omega (arith, low, alike, is); below = omega (arith, high, alike, is) }) in
      let has = has_row (slot_at slots i) id e at same in
      grind (arith, gone, has)

  pub looked_there : (slots : List (Option (ℕ × X))) (s id : ℕ) → StandOnce slots → is_some (row_in (slot_at slots s) id) ≡ true
      → lookup (is_at (nat_cmp id)) (filled slots) ≡ row_in (slot_at slots s) id
  looked_there slots s id once has = lookup_find _ id ∙ found slots s id (stands_there slots s id once has)

  pub looked_nowhere : (mask : ℕ) (slots : List (Option (ℕ × X))) (first id : ℕ) → ArePlaced mask slots → first ≡ bit_and id mask → IsNowhere slots first id
      → lookup (is_at (nat_cmp id)) (filled slots) ≡ None
  looked_nowhere mask slots first id placed is none = lookup_find _ id ∙ none_filled slots id (nowhere mask slots first id placed is none)

  -- ---- slots and the rest as one map

  pub got_there : (mask : ℕ) (d : Bool) (slots : List (Option (ℕ × X))) (m : FinMap nat_cmp X) → IsSlotted mask d slots m → (s id : ℕ) → is_some (row_in (slot_at slots s) id) ≡ true
      → row_in (slot_at slots s) id ≡ map.get (joined (filled slots) m) id
  got_there mask d slots m is s id has = some (row_in (slot_at slots s) id) has (looked_there slots s id is.placed.once has)
    where
      some : (o : Option X) → is_some o ≡ true → lookup (is_at (nat_cmp id)) (filled slots) ≡ o → o ≡ map.get (joined (filled slots) m) id
      some None has at = cc
      some (Some row) has at = got (filled slots) m id (Some row) (sym at)

  pub got_rest : (mask : ℕ) (d : Bool) (slots : List (Option (ℕ × X))) (m : FinMap nat_cmp X) → IsSlotted mask d slots m → (first id : ℕ) → first ≡ bit_and id mask → IsNowhere slots first id
      → map.get m id ≡ map.get (joined (filled slots) m) id
  got_rest mask d slots m is first id at none = got (filled slots) m id None (sym (looked_nowhere mask slots first id is.placed at none))

  -- no slot has anything
  pub got_beside : (slots : List (Option (ℕ × X))) (m : FinMap nat_cmp X) (id : ℕ) → length (filled slots) ≡ 0 → map.get m id ≡ map.get (joined (filled slots) m) id
  got_beside slots m id none = got (filled slots) m id None (by (filled slots) none)
    where
      by : (es : List (ℕ × X)) → length es ≡ 0 → None ≡ lookup (is_at (nat_cmp id)) es
      by [] e = refl
      by (x ∷ es) e = absurd (omega (arith, e))

  missing_there : (mask : ℕ) (d : Bool) (slots : List (Option (ℕ × X))) (m : FinMap nat_cmp X) → IsSlotted mask d slots m → (s id : ℕ) → is_some (row_in (slot_at slots s) id) ≡ true → map.get m id ≡ None
  missing_there mask d slots m is s id has =
      let d = entry (slot_at slots s) id has in
      missing_in_list (filled slots) m id d.0.1 is.apart (looked_there slots s id is.placed.once has ∙ has_row (slot_at slots s) id d.0 d.1 d.2)

  -- a row is put into a slot
  pub put_slot : (mask : ℕ) (d n : Bool) (slots : List (Option (ℕ × X))) (m : FinMap nat_cmp X) (first s id : ℕ) (row : X) → IsSlotted mask d slots m → first ≡ bit_and id mask → CanTake slots m first id s
      → (n ≡ false → (d ≡ false) × (s ≡ own_slot first id))
      → IsSlotted mask n (slice_set slots s (Some (id, row))) m × (joined (filled (slice_set slots s (Some (id, row)))) m ≡ map.insert (joined (filled slots) m) id row)
  put_slot mask d n slots m first s id row is at can still = by (slot_at slots s) refl
    where
      to : StandsAt slots id s → map.get m id ≡ None
          → IsSlotted mask n (slice_set slots s (Some (id, row))) m × (joined (filled (slice_set slots s (Some (id, row)))) m ≡ map.insert (joined (filled slots) m) id row)
      to only none =
          let new = put_changed slots s id row can.inside only can.own in
          let low = can.group.from in
          let high = can.group.below in
          let within : IsInGroup (bit_and id mask) s = record { from = omega (arith, low, at); below = omega (arith, high, at) } in (
            record {
              placed = placed_set mask slots s id (Some (id, row)) is.placed can.inside within only (λ e p. grind (arith, p));
              own = λ not. let both = still not in own_set mask slots s id row (is.own both.0) can.inside (both.1 ∙ ap (λ f. own_slot f id) at);
              apart = apart_insert_tree (filled slots) _ m id (Some row) is.apart new none;
            },
            insert_in_tree (filled slots) _ m id row new,
          )

      by : (o : Option (ℕ × X)) → slot_at slots s ≡ o
          → IsSlotted mask n (slice_set slots s (Some (id, row))) m × (joined (filled (slice_set slots s (Some (id, row)))) m ≡ map.insert (joined (filled slots) m) id row)
      by None free = to (λ i e there same. absurd (nowhere mask slots first id is.placed at (can.free free) i e there same)) (can.missing free)
      by (Some e) some =
          let has : is_some (row_in (slot_at slots s) id) ≡ true = ap is_some (has_row (slot_at slots s) id e some (can.own e some)) in
          to (stands_there slots s id is.placed.once has) (missing_there mask d slots m is s id has)

  -- a row that isn't there is in no slot
  pub new_nowhere : (mask : ℕ) (d : Bool) (slots : List (Option (ℕ × X))) (m : FinMap nat_cmp X) → IsSlotted mask d slots m → (id : ℕ) → map.get (joined (filled slots) m) id ≡ None
      → (slot : ℕ) → row_in (slot_at slots slot) id ≡ None
  new_nowhere mask d slots m is id new slot = by (row_in (slot_at slots slot) id) refl
    where
      by : (o : Option X) → row_in (slot_at slots slot) id ≡ o → row_in (slot_at slots slot) id ≡ None
      by None none = none
      by (Some row) there = let got = got_there mask d slots m is slot id (ap is_some there) in absurd (grind (arith, there, got, new))

  -- so it may be put into a free slot of its group
  pub may_take : (mask : ℕ) (d : Bool) (slots : List (Option (ℕ × X))) (m : FinMap nat_cmp X) → IsSlotted mask d slots m → (first s id : ℕ) → first ≡ bit_and id mask
      → map.get (joined (filled slots) m) id ≡ None → IsInGroup first s → s < length slots → slot_at slots s ≡ None → CanTake slots m first id s
  may_take mask d slots m is first s id at new group inside free = record {
    group = group;
    inside = inside;
    own = λ e some. absurd (grind (arith, free, some));
    free = λ _ slot within. new_nowhere mask d slots m is id new slot;
    missing = λ _. got_rest mask d slots m is first id at (λ slot within. new_nowhere mask d slots m is id new slot) ∙ new;
  }

  -- a row is put into the rest
  pub put_rest : (mask : ℕ) (d : Bool) (slots : List (Option (ℕ × X))) (m : FinMap nat_cmp X) (first id : ℕ) (row : X) → IsSlotted mask d slots m → first ≡ bit_and id mask → IsNowhere slots first id
      → IsSlotted mask d slots (map.insert m id row) × (joined (filled slots) (map.insert m id row) ≡ map.insert (joined (filled slots) m) id row)
  put_rest mask d slots m first id row is at none =
      let missing = looked_nowhere mask slots first id is.placed at none in
      (record { placed = is.placed; own = is.own; apart = apart_insert_list (filled slots) _ m id row is.apart refl missing }, insert_in_list (filled slots) _ m id row refl missing)

  -- a row is in one of the slots
  pub inside : (slots : List (Option (ℕ × X))) (s id : ℕ) → is_some (row_in (slot_at slots s) id) ≡ true → s < length slots
  inside [] s id has = cc
  inside (x ∷ slots) zero id has = omega arith
  inside (x ∷ slots) (suc s) id has = let lt = inside slots s id has in omega (arith, lt)

  -- a row is taken out of its slot
  pub clear_slot : (mask : ℕ) (d : Bool) (slots : List (Option (ℕ × X))) (m : FinMap nat_cmp X) (s id : ℕ) → IsSlotted mask d slots m → is_some (row_in (slot_at slots s) id) ≡ true → IsInGroup (bit_and id mask) s
      → IsSlotted mask d (slice_set slots s None) m × (joined (filled (slice_set slots s None)) m ≡ map.remove (joined (filled slots) m) id)
  clear_slot mask d slots m s id is has within =
      let own = owned (slot_at slots s) id has in
      let lt = inside slots s id has in
      let only = stands_there slots s id is.placed.once has in
      let none = missing_there mask d slots m is s id has in
      let new = clear_changed slots s id lt only own in (
        record {
          placed = placed_set mask slots s id None is.placed lt within only (λ e p. cc);
          own = λ not. own_cleared mask slots s (is.own not) lt;
          apart = apart_remove_tree (filled slots) _ m id is.apart new;
        },
        remove_in_tree (filled slots) _ m id new none,
      )

  -- a row is taken out of the rest
  pub clear_rest : (mask : ℕ) (d : Bool) (slots : List (Option (ℕ × X))) (m : FinMap nat_cmp X) (first id : ℕ) → IsSlotted mask d slots m → first ≡ bit_and id mask → IsNowhere slots first id
      → IsSlotted mask d slots (map.remove m id) × (joined (filled slots) (map.remove m id) ≡ map.remove (joined (filled slots) m) id)
  clear_rest mask d slots m first id is at none =
      let missing = looked_nowhere mask slots first id is.placed at none in
      (record { placed = is.placed; own = is.own; apart = apart_remove_list (filled slots) _ m id is.apart refl }, remove_in_list (filled slots) _ m id refl missing)

  -- an id of the rest is in no slot
  rest_nowhere : (mask : ℕ) (d : Bool) (slots : List (Option (ℕ × X))) (m : FinMap nat_cmp X) → IsSlotted mask d slots m → (id : ℕ) (row : X) → map.get m id ≡ Some row
      → (slot : ℕ) → row_in (slot_at slots slot) id ≡ None
  rest_nowhere mask d slots m is id row some slot = by (row_in (slot_at slots slot) id) refl
    where
      by : (o : Option X) → row_in (slot_at slots slot) id ≡ o → row_in (slot_at slots slot) id ≡ None
      by None none = none
      by (Some there) at = let missing = missing_there mask d slots m is slot id (ap is_some at) in absurd (grind (arith, missing, some))

  -- a row of the rest moves into a free slot of its group
  pub moved : (mask : ℕ) (d n : Bool) (slots : List (Option (ℕ × X))) (m : FinMap nat_cmp X) (first s id : ℕ) (row : X) → IsSlotted mask d slots m → first ≡ bit_and id mask → map.get m id ≡ Some row
      → IsInGroup first s → s < length slots → slot_at slots s ≡ None → (n ≡ false → (d ≡ false) × (s ≡ own_slot first id))
      → IsSlotted mask n (slice_set slots s (Some (id, row))) (map.remove m id) × (joined (filled (slice_set slots s (Some (id, row)))) (map.remove m id) ≡ joined (filled slots) m)
  moved mask d n slots m first s id row is at some group inside free still =
      let none = rest_nowhere mask d slots m is id row some in
      let cleared = clear_rest mask d slots m first id is at (λ slot within. none slot) in
      let gone = ap (λ f. f id) (got-remove m id) in
      let can : CanTake slots (map.remove m id) first id s = record {
        group = group;
        inside = inside;
        own = λ e taken. absurd (grind (arith, free, taken));
        free = λ _ slot within. none slot;
        missing = λ _. grind (arith, nat_tests, gone);
      } in
      let put = put_slot mask d n slots (map.remove m id) first s id row cleared.0 at can still in
      let there = sym (got_rest mask d slots m is first id at (λ slot within. none slot)) ∙ some in
      (put.0, put.1 ∙ ap (λ k. map.insert k id row) cleared.1 ∙ insert_back (joined (filled slots) m) id row there)

  -- ---- slots one after the other

  filled_append : (slots more : List (Option (ℕ × X))) → filled (slots ++ more) ≡ filled slots ++ filled more
  filled_append [] more = refl
  filled_append (None ∷ slots) more = filled_append slots more
  filled_append (Some e ∷ slots) more = ap (λ es. e ∷ es) (filled_append slots more)

  -- the slots up to one more
  filled_next : (slots : List (Option (ℕ × X))) (k : ℕ) → k < length slots → filled (take (k + 1) slots) ≡ filled (take k slots) ++ filled (slot_at slots k ∷ [])
  filled_next slots k lt = ap filled (take_more slots k None lt) ∙ filled_append (take k slots) (slot_at slots k ∷ [])

  find_one : (o : Option (ℕ × X)) (q : ℕ) → find nat_cmp q (filled (o ∷ [])) ≡ row_in o q
  find_one None q = refl
  find_one (Some e) q = grind (arith, nat_tests)

  -- what is found up to one more
  found_next : (slots : List (Option (ℕ × X))) (k q : ℕ) → k < length slots → find nat_cmp q (filled (take (k + 1) slots)) ≡ option_or (find nat_cmp q (filled (take k slots))) (row_in (slot_at slots k) q)
  found_next slots k q lt =
      ap (find nat_cmp q) (filled_next slots k lt) ∙ find_append (filled (take k slots)) _ q ∙ ap (option_or (find nat_cmp q (filled (take k slots)))) (find_one (slot_at slots k) q)

  -- the same for an element that was read there
  pub found_after : (slots : List (Option (ℕ × X))) (k q : ℕ) (o : Option (ℕ × X)) → k < length slots → o ≡ slice_index_or slots k o
      → find nat_cmp q (filled (take (k + 1) slots)) ≡ option_or (find nat_cmp q (filled (take k slots))) (row_in o q)
  found_after slots k q o lt is = found_next slots k q lt ∙ ap (λ o. option_or (find nat_cmp q (filled (take k slots))) (row_in o q)) (get_or_default slots k None o lt ∙ sym is)

  -- what is in the slots up to one more
  pub slot_after : (slots : List (Option (ℕ × X))) (k : ℕ) (o : Option (ℕ × X)) → k < length slots → o ≡ slice_index_or slots k o
      → filled (take (k + 1) slots) ≡ filled (take k slots) ++ filled (o ∷ [])
  slot_after slots k o lt is = filled_next slots k lt ∙ ap (λ o. filled (take k slots) ++ filled (o ∷ [])) (get_or_default slots k None o lt ∙ sym is)

  ids_append : (es fs : List (ℕ × X)) → each (λ e. e.0) (es ++ fs) ≡ each (λ e. e.0) es ++ each (λ e. e.0) fs
  ids_append [] fs = refl
  ids_append (e ∷ es) fs = ap (λ l. e.0 ∷ l) (ids_append es fs)

  -- the ids in the slots up to one more
  pub ids_after : (slots : List (Option (ℕ × X))) (k : ℕ) (o : Option (ℕ × X)) (before : List ℕ) → k < length slots → o ≡ slice_index_or slots k o
      → before ++ each (λ e. e.0) (filled (take (k + 1) slots)) ≡ (before ++ each (λ e. e.0) (filled (take k slots))) ++ each (λ e. e.0) (filled (o ∷ []))
  ids_after slots k o before lt is =
      ap (λ es. before ++ each (λ e. e.0) es) (slot_after slots k o lt is) ∙ ap (λ l. before ++ l) (ids_append (filled (take k slots)) (filled (o ∷ [])))
      ∙ sym (append_assoc before (each (λ e. e.0) (filled (take k slots))) (each (λ e. e.0) (filled (o ∷ []))))

  -- how often an id is in the slots
  pub times_filled : (slots : List (Option (ℕ × X))) → StandOnce slots → (q : ℕ) → times q (each (λ e. e.0) (filled slots)) ≡ (if is_some (find nat_cmp q (filled slots)) then 1 else 0)
  times_filled [] once q = refl
  times_filled (None ∷ slots) once q = times_filled slots (λ i j e f at_i at_j same. let is = once (suc i) (suc j) e f at_i at_j same in omega (arith, is)) q
  times_filled (Some d ∷ slots) once q =
      let rest = times_filled slots (λ i j e f at_i at_j same. let is = once (suc i) (suc j) e f at_i at_j same in omega (arith, is)) q in
      let a = times_cons q d.0 (each (λ e. e.0) (filled slots)) in
      let none : d.0 ≡ q → find nat_cmp q (filled slots) ≡ None = λ here. none_filled slots q (λ i e there same. let is = once 0 (suc i) d e refl there (here ∙ sym same) in omega (arith, is)) in
      grind (arith, nat_tests, rest, a, none)

  -- the ids of the slots and of the rest, sorted
  pub slotted_ids : (mask : ℕ) (d : Bool) (slots : List (Option (ℕ × X))) (m : FinMap nat_cmp X) → IsSlotted mask d slots m → (xs ys : List ℕ) → xs ≡ each (λ e. e.0) (filled slots) ++ map.keys m
      → IsPermutation xs ys → IsSorted nat_cmp ys → ys ≡ map.keys (joined (filled slots) m)
  slotted_ids mask d slots m is xs ys all moved sorted = sorted_keys (joined (filled slots) m) xs ys moved sorted (λ q.
      let a = ap (times q) all ∙ times_append q (each (λ e. e.0) (filled slots)) (map.keys m) in
      let b = times_filled slots is.placed.once q in
      let c = keys_once m q in
      let d : map.get (joined (filled slots) m) q ≡ option_or (find nat_cmp q (filled slots)) (map.get m q) = get-joined (filled slots) m q ∙ ap (λ o. option_or o (map.get m q)) (lookup_find (filled slots) q) in
      let e = is.apart q in
      counted (find nat_cmp q (filled slots)) (map.get m q) (map.get (joined (filled slots) m) q) a b c d e)
    where
      counted : {n a b : ℕ} (o p r : Option X) → n ≡ a + b → a ≡ (if is_some o then 1 else 0) → b ≡ (if is_some p then 1 else 0) → r ≡ option_or o p → is_some o && is_some p ≡ false
          → n ≡ (if is_some r then 1 else 0)
      counted None None r n a b is apart = rw is (omega (arith, n, a, b))
      counted None (Some y) r n a b is apart = rw is (omega (arith, n, a, b))
      counted (Some x) None r n a b is apart = rw is (omega (arith, n, a, b))
      counted (Some x) (Some y) r n a b is apart = cc
