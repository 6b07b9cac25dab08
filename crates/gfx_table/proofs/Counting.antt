-- How many slots are taken.
use Rattle.std.proofs.Common.{◌≡◌, ℕ, zero, suc, ◌+◌, ◌<◌, ◌≤◌, ◌-◌, if◌then◌else◌, is_some, true, List, [], ◌∷◌, ◌++◌, length, slice_set, slice_index_or, take, Option, Some, None, refl, ap, ◌∙◌, arith}
use Rattle.std.proofs.lemmas.List.{append-nil, length_push}
use Rattle.gfx_table.specs.Slotted.{slot_at, row_in, filled}
use Rattle.gfx_table.proofs.Slotting.{inside, slot_after}

module _ {X : Type 0} where
  -- how many entries a slot has
  abbrev pub held : Option (ℕ × X) → ℕ
  held o = if is_some o then 1 else 0

  count_one : (o : Option (ℕ × X)) (slots : List (Option (ℕ × X))) → length (filled (o ∷ slots)) ≡ length (filled slots) + held o
  count_one None slots = omega arith
  count_one (Some e) slots = omega arith

  -- one slot is given another content
  pub count_set : (slots : List (Option (ℕ × X))) (s : ℕ) (w : Option (ℕ × X)) → s < length slots → length (filled (slice_set slots s w)) + held (slot_at slots s) ≡ length (filled slots) + held w
  count_set [] s w lt = absurd (omega (arith, lt))
  count_set (o ∷ slots) zero w lt = let new = count_one w slots in let old = count_one o slots in omega (arith, new, old)
  count_set (o ∷ slots) (suc s) w lt =
      let rest = count_set slots s w (omega (arith, lt)) in
      let new = count_one o (slice_set slots s w) in
      let old = count_one o slots in
      omega (arith, rest, new, old)

  -- no slot has two
  pub count_most : (slots : List (Option (ℕ × X))) → length (filled slots) ≤ length slots
  count_most [] = omega arith
  count_most (None ∷ slots) = let rest = count_most slots in omega (arith, rest)
  count_most (Some e ∷ slots) = let rest = count_most slots in omega (arith, rest)

  -- no slot has anything
  pub count_free : (slots : List (Option (ℕ × X))) → ((i : ℕ) → slot_at slots i ≡ None) → length (filled slots) ≡ 0
  count_free [] free = refl
  count_free (o ∷ slots) free = ap (λ o. length (filled (o ∷ slots))) (free 0) ∙ count_free slots (λ i. free (suc i))

  -- one more slot is gone over
  pub count_after : (slots : List (Option (ℕ × X))) (k : ℕ) (o : Option (ℕ × X)) → k < length slots → o ≡ slice_index_or slots k o → length (filled (take (k + 1) slots)) ≡ length (filled (take k slots)) + held o
  count_after slots k o lt is = ap length (slot_after slots k o lt is) ∙ more (filled (take k slots)) o
    where
      more : (es : List (ℕ × X)) (o : Option (ℕ × X)) → length (es ++ filled (o ∷ [])) ≡ length es + held o
      more es None = let same = ap length (append-nil es) in omega (arith, same)
      more es (Some e) = length_push es e

  -- something is put into a free slot
  pub count_new : (slots : List (Option (ℕ × X))) (s taken new : ℕ) (w : Option (ℕ × X)) (e : ℕ × X) → s < length slots → slot_at slots s ≡ None → w ≡ Some e
      → new ≡ taken + 1 → taken ≡ length (filled slots) → new ≡ length (filled (slice_set slots s w))
  count_new slots s taken new w e lt free is more was =
      let set = count_set slots s w lt in
      let there = ap held free in
      let put = ap held is in
      omega (arith, set, there, put, more, was)

  -- something is put over something
  pub count_same : (slots : List (Option (ℕ × X))) (s taken : ℕ) (w : Option (ℕ × X)) (e : ℕ × X) → s < length slots → ¬ (slot_at slots s ≡ None) → w ≡ Some e
      → taken ≡ length (filled slots) → taken ≡ length (filled (slice_set slots s w))
  count_same slots s taken w e lt some is was = by (slot_at slots s) refl
    where
      by : (o : Option (ℕ × X)) → slot_at slots s ≡ o → taken ≡ length (filled (slice_set slots s w))
      by None none = absurd (some none)
      by (Some d) at = let set = count_set slots s w lt in let there = ap held at in let put = ap held is in omega (arith, set, there, put, was)

  -- a slot in which the row of an id stands is made free
  pub count_clear : (slots : List (Option (ℕ × X))) (s id taken new : ℕ) (w : Option (ℕ × X)) → is_some (row_in (slot_at slots s) id) ≡ true → w ≡ None
      → new ≡ taken - 1 → taken ≡ length (filled slots) → new ≡ length (filled (slice_set slots s w))
  count_clear slots s id taken new w has is less was =
      let lt = inside slots s id has in
      let set = count_set slots s w lt in
      let put = ap held is in
      let there = one (slot_at slots s) has in
      omega (arith, set, put, there, less, was)
    where
      one : (o : Option (ℕ × X)) → is_some (row_in o id) ≡ true → held o ≡ 1
      one None none = absurd cc
      one (Some e) some = refl
