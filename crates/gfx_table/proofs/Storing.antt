-- What a change of a slab, or of the keys of its rows, makes of the rows under ids.
use Rattle.std.proofs.Common.{◌≡◌, ℕ, ◌≢◌, ◌==◌, true, if◌then◌else◌, List, [], ◌∷◌, Option, Some, None, is_some, option_and_then, option_map, refl, sym, ap, ◌∙◌, arith}
use Rattle.std.specs.Prelude.{filter_map, map as each, slice_index_or}
use Rattle.std.specs.Ordering.{nat_cmp}
use Rattle.std.specs.Cmp.{nat_cmp_total}
use Rattle.std.proofs.lemmas.Bool.Decides.{nat_tests}
use Rattle.std.specs.FinMap as map
use Rattle.std.specs.FinMap.{FinMap, entries, get-insert, get-remove, get-empty}
use Rattle.slab.specs.Slab.{Slab, get, Updates}
use Rattle.gfx_table.specs.Values.{with_rows, changed, get-with_rows, entries-with_rows}
use Rattle.gfx_table.specs.Stored.{stored, AreStored}
use Rattle.gfx_table.proofs.Joining.{same_keys}

-- a mark for a row, whatever it is
abbrev mark : {X : Type 0} → X → ℕ
mark row = 0

-- a mark under each id
abbrev marks : {X : Type 0} → FinMap nat_cmp X → FinMap nat_cmp ℕ
marks m = with_rows (λ id row. Some (mark row)) m

ids_of-changed : {X : Type 0} (es : List (ℕ × X)) → each (λ e. e.0) (filter_map (changed (λ id row. Some (mark row))) es) ≡ each (λ e. e.0) es
ids_of-changed [] = refl
ids_of-changed (e ∷ es) = ap (λ ids. e.0 ∷ ids) (ids_of-changed es)

keys-marks : {X : Type 0} (m : FinMap nat_cmp X) → map.keys (marks m) ≡ map.keys m
keys-marks m = ap (each (λ e. e.0)) (entries-with_rows (λ id row. Some (mark row)) m) ∙ ids_of-changed (entries m)

get-marks : {X : Type 0} (m : FinMap nat_cmp X) (q : ℕ) → map.get (marks m) q ≡ option_map mark (map.get m q)
get-marks m q = get-with_rows (λ id row. Some (mark row)) m q ∙ by (map.get m q)
  where
    by : {X : Type 0} (o : Option X) → option_and_then (λ row. Some (mark row)) o ≡ option_map mark o
    by None = refl
    by (Some row) = refl

module _ {X : Type 0} where
  pub get-stored : (rows : Slab X) (keys : FinMap nat_cmp ℕ) (q : ℕ) → map.get (stored rows keys) q ≡ option_and_then (get rows) (map.get keys q)
  unfolding stored
  get-stored rows keys q = get-with_rows (λ id key. get rows key) keys q

  -- a slab with the same rows
  pub same_stored : (rows more : Slab X) (keys : FinMap nat_cmp ℕ) → more.slots ≡ rows.slots → stored more keys ≡ stored rows keys
  same_stored rows more keys is = same_keys _ _ (λ q.
      get-stored more keys q ∙ ap (λ slots. option_and_then (λ key. slice_index_or slots key None) (map.get keys q)) is ∙ sym (get-stored rows keys q))

  -- no rows
  pub none_stored : (rows : Slab X) (keys : FinMap nat_cmp ℕ) → keys ≡ map.empty → AreStored rows keys × (stored rows keys ≡ map.empty)
  none_stored rows keys is =
      let none : (q : ℕ) → map.get keys q ≡ None = λ q. ap (λ m. map.get m q) is ∙ get-empty nat_cmp q in (
        record {
          there = λ id key at. let n = none id in grind (arith, n, at);
          apart = λ id other key at also. let n = none id in grind (arith, n, at);
        },
        same_keys _ _ (λ q. get-stored rows keys q ∙ ap (option_and_then (get rows)) (none q) ∙ sym (get-empty nat_cmp q)),
      )

  -- an id without a row has no key
  pub no_key : (rows : Slab X) (keys : FinMap nat_cmp ℕ) → AreStored rows keys → (id : ℕ) → map.get (stored rows keys) id ≡ None → map.get keys id ≡ None
  no_key rows keys are id none = by (map.get keys id) refl
    where
      by : (o : Option ℕ) → map.get keys id ≡ o → o ≡ None
      by None at = refl
      by (Some key) at =
          let there = are.there id key at in
          let a = get-stored rows keys id in
          grind (arith, at, there, a, none)

  -- the ids are those that have keys
  pub stored_ids : (rows : Slab X) (keys : FinMap nat_cmp ℕ) → AreStored rows keys → map.keys keys ≡ map.keys (stored rows keys)
  stored_ids rows keys are =
      let same : marks keys ≡ marks (stored rows keys) = same_keys _ _ (λ q.
      get-marks keys q ∙ by q (map.get keys q) refl ∙ ap (option_map mark) (sym (get-stored rows keys q)) ∙ sym (get-marks (stored rows keys) q)) in
      sym (keys-marks keys) ∙ ap map.keys same ∙ keys-marks (stored rows keys)
    where
      there : (key : ℕ) (o : Option X) → is_some o ≡ true → Some (mark key) ≡ option_map mark o
      there key None none = grind (arith, none)
      there key (Some row) some = refl

      by : (q : ℕ) (o : Option ℕ) → map.get keys q ≡ o → option_map mark o ≡ option_map mark (option_and_then (get rows) o)
      by q None at = refl
      by q (Some key) at = there key (get rows key) (are.there q key at)

  module _ (old new : Slab X) (keys : FinMap nat_cmp ℕ) (are : AreStored old keys) (id key : ℕ) where
    -- a row under a new id, at a key that had none
    pub put_row : (row : X) → map.get keys id ≡ None → get old key ≡ None → Updates old new key (Some row)
        → AreStored new (map.insert keys id key) × (stored new (map.insert keys id key) ≡ map.insert (stored old keys) id row)
    put_row row none free updates = (
      record {
        there = λ q k got.
            let a = get-insert nat_cmp_total keys id key q in
            let was = are.there q k in
            let other = updates.others k in
            let here : k ≡ key → get new k ≡ Some row = λ s. ap (get new) s ∙ updates.changed in
            grind (arith, nat_tests, got, a, was, other, here);
        apart = λ q r k got also.
            let a = get-insert nat_cmp_total keys id key q in
            let b = get-insert nat_cmp_total keys id key r in
            let was = are.apart q r k in
            let first = are.there q k in
            let second = are.there r k in
            let here : k ≡ key → get old k ≡ None = λ s. ap (get old) s ∙ free in
            grind (arith, nat_tests, got, also, a, b, was, first, second, here);
      },
      same_keys _ _ (λ q.
          let a = get-stored new (map.insert keys id key) q in
          let b = get-stored old keys q in
          let c = get-insert nat_cmp_total (stored old keys) id row q in
          let d = get-insert nat_cmp_total keys id key q in
          let e = by q (map.get keys q) refl in
          let is = updates.changed in
          grind (arith, nat_tests, a, b, c, d, e, is)),
    )
      where
        by : (q : ℕ) (o : Option ℕ) → map.get keys q ≡ o → option_and_then (get new) o ≡ option_and_then (get old) o
        by q None at = refl
        by q (Some k) at =
            let was = are.there q k at in
            let here : k ≡ key → get old k ≡ None = λ s. ap (get old) s ∙ free in
            updates.others k (λ s. let h = here s in grind (arith, was, h))

    -- the row of an id is another
    pub write_row : (row : X) → map.get keys id ≡ Some key → Updates old new key (Some row) → AreStored new keys × (stored new keys ≡ map.insert (stored old keys) id row)
    write_row row is updates = (
      record {
        there = λ q k got.
            let was = are.there q k got in
            let other = updates.others k in
            let here : k ≡ key → get new k ≡ Some row = λ s. ap (get new) s ∙ updates.changed in
            grind (arith, nat_tests, was, other, here);
        apart = are.apart;
      },
      same_keys _ _ (λ q.
          let a = get-stored new keys q in
          let b = get-stored old keys q in
          let c = get-insert nat_cmp_total (stored old keys) id row q in
          let e = by q (map.get keys q) refl in
          grind (arith, nat_tests, a, b, c, e)),
    )
      where
        by : (q : ℕ) (o : Option ℕ) → map.get keys q ≡ o → option_and_then (get new) o ≡ (if q == id then Some row else option_and_then (get old) o)
        by q None at = let here : q ≡ id → map.get keys q ≡ Some key = λ s. rw s is in grind (arith, nat_tests, at, here)
        by q (Some k) at =
            let other = updates.others k in
            let here : k ≡ key → get new k ≡ Some row = λ s. ap (get new) s ∙ updates.changed in
            let same : k ≡ key → q ≡ id = λ s. are.apart q id key (at ∙ ap Some s) is in
            let mine : q ≡ id → map.get keys q ≡ Some key = λ s. rw s is in
            grind (arith, nat_tests, other, here, same, mine, at)

    -- the row of an id is taken
    pub take_row : map.get keys id ≡ Some key → Updates old new key None → AreStored new (map.remove keys id) × (stored new (map.remove keys id) ≡ map.remove (stored old keys) id)
    take_row is updates = (
      record {
        there = λ q k got.
            let a = get-remove nat_cmp_total keys id q in
            let was = are.there q k in
            let other = updates.others k in
            let same : map.get keys q ≡ Some k → k ≡ key → q ≡ id = λ at s. are.apart q id key (at ∙ ap Some s) is in
            grind (arith, nat_tests, got, a, was, other, same);
        apart = λ q r k got also.
            let a = get-remove nat_cmp_total keys id q in
            let b = get-remove nat_cmp_total keys id r in
            let was = are.apart q r k in
            grind (arith, nat_tests, got, also, a, b, was);
      },
      same_keys _ _ (λ q.
          let a = get-stored new (map.remove keys id) q in
          let b = get-stored old keys q in
          let c = get-remove nat_cmp_total (stored old keys) id q in
          let d = get-remove nat_cmp_total keys id q in
          let e = by q (map.get keys q) refl in
          grind (arith, nat_tests, a, b, c, d, e)),
    )
      where
        by : (q : ℕ) (o : Option ℕ) → map.get keys q ≡ o → q ≢ id → option_and_then (get new) o ≡ option_and_then (get old) o
        by q None at not = refl
        by q (Some k) at not = updates.others k (λ s. not (are.apart q id key (at ∙ ap Some s) is))
