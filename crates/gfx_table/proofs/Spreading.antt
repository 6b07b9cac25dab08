-- What is in other slots once they are spread anew.
use Rattle.std.proofs.Common.{◌≡◌, ℕ, zero, suc, ◌<◌, nat_lt, if◌then◌else◌, is_some, ◌&&◌, Bool, true, false, subst, List, [], ◌∷◌, ◌++◌, length, ◌+◌, bit_and, slice_set, slice_index_or, take, Option, Some, None, refl, sym, ap, ◌∙◌, arith}
use Rattle.std.specs.Option.{option_or}
use Rattle.std.specs.Ordering.{nat_cmp}
use Rattle.std.specs.Map.{lookup}
use Rattle.std.specs.BTreeMap.{is_at}
use Rattle.std.proofs.lemmas.Bool.Decides.{nat_tests}
use Rattle.std.proofs.lemmas.List.{get_or_default}
use Rattle.std.specs.FinMap as map
use Rattle.std.specs.FinMap.{FinMap, find}
use Rattle.gfx_table.specs.Joined.{joined}
use Rattle.gfx_table.specs.Slotted.{slot_at, row_in, filled, own_slot, IsInGroup, StandOnce, AreOwn, ArePlaced, IsSlotted}
use Rattle.gfx_table.proofs.Joining.{lookup_find, get-joined, same_keys, option_or-None}
use Rattle.gfx_table.proofs.Counting.{held, count_after, count_free, count_set}
use Rattle.gfx_table.proofs.Slotting.{none_filled, StandsAt, IsOf, placed_set, changed, own_set, found_after}

module _ {X : Type 0} where
  -- one more free slot
  pub free_more : (slots : List (Option (ℕ × X))) → ((i : ℕ) → slot_at slots i ≡ None) → (i : ℕ) → slot_at (slots ++ (None ∷ [])) i ≡ None
  free_more [] free zero = refl
  free_more [] free (suc i) = refl
  free_more (x ∷ slots) free zero = free 0
  free_more (x ∷ slots) free (suc i) = free_more slots (λ i. free (suc i)) i

  -- no slot has anything
  none_placed : (mask : ℕ) (slots : List (Option (ℕ × X))) → ((i : ℕ) → slot_at slots i ≡ None) → ArePlaced mask slots × ((q : ℕ) → find nat_cmp q (filled slots) ≡ None)
  none_placed mask slots empty = (
    record {
      group = λ i e at. absurd (not i e at);
      once = λ i j e f at. absurd (not i e at);
    },
    λ q. none_filled slots q (λ i e at same. not i e at),
  )
    where
      not : (i : ℕ) (e : ℕ × X) → slot_at slots i ≡ Some e → ⊥
      not i e at = let none = empty i in grind (arith, none, at)

  -- what is in a slot is found
  stands : (slots : List (Option (ℕ × X))) (i : ℕ) (e : ℕ × X) → slot_at slots i ≡ Some e → is_some (find nat_cmp e.0 (filled slots)) ≡ true
  stands [] i e at = cc
  stands (None ∷ slots) zero e at = cc
  stands (None ∷ slots) (suc i) e at = stands slots i e at
  stands (Some d ∷ slots) zero e at = let same : d ≡ e = grind (arith, at) in grind (arith, nat_tests, same)
  stands (Some d ∷ slots) (suc i) e at = let rest = stands slots i e at in grind (arith, nat_tests, rest)

  -- the entry of a new id is put into a free slot of its group
  spread_slot : (mask : ℕ) (slots : List (Option (ℕ × X))) (first s id : ℕ) (row : X) → ArePlaced mask slots → s < length slots → first ≡ bit_and id mask → IsInGroup first s
      → slot_at slots s ≡ None → find nat_cmp id (filled slots) ≡ None
      → ArePlaced mask (slice_set slots s (Some (id, row))) × ((q : ℕ) → find nat_cmp q (filled (slice_set slots s (Some (id, row)))) ≡ option_or (find nat_cmp q (filled slots)) (row_in (Some (id, row)) q))
  spread_slot mask slots first s id row placed lt at group free none = (placed_set mask slots s id (Some (id, row)) placed lt within only mine, same)
    where
      within : IsInGroup (bit_and id mask) s
      within = let low = group.from in let high = group.below in record { from = omega (arith, low, at); below = omega (arith, high, at) }

      only : StandsAt slots id s
      only i e there same = absurd (let has = stands slots i e there in let gone = ap (λ q. find nat_cmp q (filled slots)) same ∙ none in grind (arith, has, gone))

      mine : IsOf (Some (id, row)) id
      mine e p = grind (arith, p)

      own : IsOf (slot_at slots s) id
      own e p = grind (arith, p, free)

      same : (q : ℕ) → find nat_cmp q (filled (slice_set slots s (Some (id, row)))) ≡ option_or (find nat_cmp q (filled slots)) (row_in (Some (id, row)) q)
      same q =
          let a = changed slots s id (Some (id, row)) lt only own mine q in
          let b : lookup (is_at (nat_cmp q)) (filled (slice_set slots s (Some (id, row)))) ≡ find nat_cmp q (filled (slice_set slots s (Some (id, row)))) = lookup_find _ q in
          let c : lookup (is_at (nat_cmp q)) (filled slots) ≡ find nat_cmp q (filled slots) = lookup_find _ q in
          let here : q ≡ id → find nat_cmp q (filled slots) ≡ None = λ p. ap (λ i. find nat_cmp i (filled slots)) p ∙ none in
          let past : option_or (find nat_cmp q (filled slots)) None ≡ find nat_cmp q (filled slots) = option_or-None _ in
          grind (arith, nat_tests, a, b, c, here, past)

  slot_take : (slots : List (Option (ℕ × X))) (k i : ℕ) → slot_at (take k slots) i ≡ (if nat_lt i k then slot_at slots i else None)
  slot_take slots zero i = grind (arith, nat_tests)
  slot_take [] (suc k) i = grind (arith, nat_tests)
  slot_take (x ∷ slots) (suc k) zero = grind (arith, nat_tests)
  slot_take (x ∷ slots) (suc k) (suc i) = let rest = slot_take slots k i in grind (arith, nat_tests, rest)

  -- the id in a slot is in none before it
  none_before : (slots : List (Option (ℕ × X))) (k : ℕ) (e : ℕ × X) → StandOnce slots → slot_at slots k ≡ Some e → find nat_cmp e.0 (filled (take k slots)) ≡ None
  none_before slots k e once at = none_filled (take k slots) e.0 (λ i f there same.
      let here = slot_take slots k i in
      let one = once i k f e in
      grind (arith, nat_tests, here, one, there, same, at))

  -- what is in the first k slots is in other slots
  pub record IsSpread (mask : ℕ) (displaced : Bool) (slots wide : List (Option (ℕ × X))) (k : ℕ) : Type 0 where
    pub placed : ArePlaced mask wide
    pub own : displaced ≡ false → AreOwn mask wide
    pub same : (q : ℕ) → find nat_cmp q (filled wide) ≡ find nat_cmp q (filled (take k slots))
    pub count : length (filled wide) ≡ length (filled (take k slots))

  pub spread_start : (mask : ℕ) (d : Bool) (slots wide : List (Option (ℕ × X))) → ((i : ℕ) → slot_at wide i ≡ None) → IsSpread mask d slots wide 0
  spread_start mask d slots wide empty =
      let none = none_placed mask wide empty in
      record {
        placed = none.0;
        own = λ not i e at. let gone = empty i in absurd (grind (arith, gone, at));
        same = none.1;
        count = count_free wide empty;
      }

  pub spread_past : (mask : ℕ) (d : Bool) (slots wide : List (Option (ℕ × X))) (k : ℕ) → k < length slots → None ≡ slice_index_or slots k None → IsSpread mask d slots wide k → IsSpread mask d slots wide (k + 1)
  spread_past mask d slots wide k lt is was = record {
    placed = was.placed;
    own = was.own;
    same = λ q. was.same q ∙ sym (option_or-None _) ∙ sym (found_after slots k q None lt is);
    count = let next = count_after slots k None lt is in let had = was.count in omega (arith, next, had);
  }

  pub spread_more : (mask : ℕ) (d n : Bool) (slots wide new : List (Option (ℕ × X))) (k first place : ℕ) (entry : ℕ × X) → StandOnce slots → k < length slots → Some entry ≡ slice_index_or slots k (Some entry)
      → first ≡ bit_and entry.0 mask → IsInGroup first place → place < length wide → slot_at wide place ≡ None → new ≡ slice_set wide place (Some entry)
      → (n ≡ false → (d ≡ false) × (place ≡ own_slot first entry.0)) → IsSpread mask d slots wide k → IsSpread mask n slots new (k + 1)
  spread_more mask d n slots wide new k first place entry once lt is at group inside free put still was =
      let there = get_or_default slots k None (Some entry) lt ∙ sym is in
      let none = was.same entry.0 ∙ none_before slots k entry once there in
      let both = spread_slot mask wide first place entry.0 entry.1 was.placed inside at group free none in
      rw put (record {
        placed = both.0;
        own = λ not. let own = still not in own_set mask wide place entry.0 entry.1 (was.own own.0) inside (own.1 ∙ ap (λ f. own_slot f entry.0) at);
        same = λ q. both.1 q ∙ ap (λ o. option_or o (row_in (Some entry) q)) (was.same q) ∙ sym (found_after slots k q (Some entry) lt is);
        count =
            let next = count_after slots k (Some entry) lt is in
            let new = count_set wide place (Some entry) inside in
            let free = ap held free in
            let had = was.count in
            omega (arith, next, new, free, had);
      })

  -- the same entries in other slots
  pub same_slotted : (mask wide : ℕ) (d n : Bool) (slots new : List (Option (ℕ × X))) (m : FinMap nat_cmp X) → IsSlotted mask d slots m → ArePlaced wide new → (n ≡ false → AreOwn wide new) → ((q : ℕ) → find nat_cmp q (filled new) ≡ find nat_cmp q (filled slots))
      → IsSlotted wide n new m × (joined (filled new) m ≡ joined (filled slots) m)
  same_slotted mask wide d n slots new m is placed own same = (
    record { placed = placed; own = own; apart = λ q. subst (λ o. is_some o && is_some (map.get m q) ≡ false) (sym (same q)) (is.apart q) },
    same_keys _ _ (λ q. get-joined (filled new) m q ∙ ap (λ o. option_or o (map.get m q)) (lookup_find (filled new) q ∙ same q ∙ sym (lookup_find (filled slots) q)) ∙ sym (get-joined (filled slots) m q)),
  )
