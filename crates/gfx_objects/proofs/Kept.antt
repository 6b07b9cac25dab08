-- The invariants of the tables after each change.
use Rattle.std.proofs.Common.{◌≡◌, ℕ, ◌+◌, ◌-◌, ◌<◌, ◌≤◌, ◌==◌, ◌||◌, Bool, true, false, Option, Some, None, is_some, if◌then◌else◌, refl, ap, subst, sym, ◌∙◌, arith}
use Rattle.std.specs.Ordering.{nat_cmp}
use Rattle.std.specs.FinMap as map
use Rattle.std.specs.FinMap.{FinMap}
use Rattle.std.proofs.lemmas.Bool.Decides.{nat_tests}
use Rattle.std.proofs.lemmas.Option.{same_Some}
use Rattle.gfx_table.specs.IdSet.{holds}
use Rattle.gfx_model.specs.Steps.{Detail, kind_of}
use Rattle.gfx_model.specs.Questions.{Binding}
use Rattle.gfx_model.specs.Views.{detail_size, detail_bytes}
use Rattle.gfx_model.specs.Limits.{max_live_bytes, max_live_objects}
use Rattle.gfx_objects.specs.declared.object.Object.{Object}
use Rattle.gfx_objects.specs.Object.{detail_of, bound_of, is_within}
use Rattle.gfx_objects.specs.Inside.{IsNoted}
use Rattle.gfx_objects.specs.Objects.{Kept, was_used, IsRow, RestsIn, IsSound, IsIndexed, children_in, bytes_in}
use Rattle.gfx_objects.proofs.Index.{total_created, len_created, total_removed, len_removed, total_changed, len_changed, at_insert, at_remove}

-- where no device is at hand, none is told
pub none_noted : (k : Kept) → IsNoted None k
none_noted k n is = absurd (grind (arith, is))

-- a row that isn't used isn't live
pub unused_fresh : (k : Kept) (id : ℕ) → was_used k id ≡ false → map.get k.rows id ≡ None
unused_fresh k id unused = cases (map.get k.rows id) refl
  where
    cases : (o : Option Object) → map.get k.rows id ≡ o → o ≡ None
    cases None e = refl
    cases (Some o) e = let live = ap is_some e in absurd (grind (arith, live, unused))

-- the same rows and ended ids
pub used_same : (k n : Kept) → n.rows ≡ k.rows → holds n.ended ≡ holds k.ended → was_used n ≡ was_used k
used_same k n rows ended = λ i id. (ap (λ m. is_some (map.get m id) || holds n.ended id) rows ∙ ap (λ f. is_some (map.get k.rows id) || f id) ended) i

-- a live object ended
pub used_removed : (k n : Kept) (id : ℕ) (o : Object) → n.rows ≡ map.remove k.rows id → map.get k.rows id ≡ Some o → holds n.ended ≡ (λ other. id == other || holds k.ended other) → was_used n ≡ was_used k
used_removed k n id o rows some ended = λ i other. (each other) i
  where
    each : (other : ℕ) → was_used n other ≡ was_used k other
    each other =
        let at = ap (λ m. map.get m other) rows ∙ at_remove k.rows id other in
        let now = ap (λ f. f other) ended in
        let here : id ≡ other → map.get k.rows other ≡ Some o = λ p. rw (sym p) some in
        grind (arith, nat_tests, at, now, here)

-- ---- the same rows

pub sound_same : (k n : Kept) → n.rows ≡ k.rows → holds n.ended ≡ holds k.ended → IsSound k → IsSound n
sound_same k n rows ended sound = record {
  row = λ id o some. sound.row id o (ap (λ m. map.get m id) (sym rows) ∙ some);
  bound = λ id o b some is.
      let old = sound.bound id o b (ap (λ m. map.get m id) (sym rows) ∙ some) is in
      record {
        used = ap (λ f. f b.memory) (used_same k n rows ended) ∙ old.used;
        inside = λ m live. old.inside m (ap (λ q. map.get q b.memory) (sym rows) ∙ live);
      };
  few = let a = ap map.len rows in let b = sound.few in omega (arith, a, b);
  small = let a = ap bytes_in rows in let b = sound.small in omega (arith, a, b);
}

pub indexed_same : (m n : FinMap nat_cmp Object) (children children' : ℕ → ℕ) (bytes count : ℕ)
    → n ≡ m → children' ≡ children → IsIndexed m children bytes count → IsIndexed n children' bytes count
indexed_same m n children children' bytes count rows by_parent old = record {
  by_parent = λ parent. ap (λ f. f parent) by_parent ∙ old.by_parent parent ∙ ap (λ m. children_in m parent) (sym rows);
  in_all = old.in_all ∙ ap bytes_in (sym rows);
  in_number = old.in_number ∙ ap map.len (sym rows);
}

-- ---- a new row

module _ (k n : Kept) (id : ℕ) (o : Object) (rows : n.rows ≡ map.insert k.rows id o) where
  row_at : (x : ℕ) (r : Object) → IsRow id o → ((x : ℕ) (r : Object) → map.get k.rows x ≡ Some r → IsRow x r) → map.get n.rows x ≡ Some r → IsRow x r
  row_at x r is old some = cases (id == x) refl (sym (ap (λ m. map.get m x) rows ∙ at_insert k.rows id o x) ∙ some)
    where
      cases : (t : Bool) → (id == x) ≡ t → (if t then Some o else map.get k.rows x) ≡ Some r → IsRow x r
      cases true e now =
          let here : id ≡ x = grind (arith, nat_tests) in
          subst (λ y. IsRow y r) here (subst (λ q. IsRow id q) (same_Some o r now) is)
      cases false e now = old x r now

  now_at : (x : ℕ) (r : Object) → map.get n.rows x ≡ Some r → (if id == x then Some o else map.get k.rows x) ≡ Some r
  now_at x r some = sym (ap (λ m. map.get m x) rows ∙ at_insert k.rows id o x) ∙ some

  -- a row rests where it rested, and the new one too, where all that is live under this id has these bytes
  bound_at : was_used n ≡ (λ other. id == other || was_used k other)
      → ((b : Binding) (d : Detail) → RestsIn k d b → id ≡ b.memory → b.offset + detail_size d ≤ detail_size (detail_of o.detail))
      → ((b : Binding) → bound_of o.detail ≡ Some b → RestsIn k (detail_of o.detail) b)
      → ((x : ℕ) (r : Object) (b : Binding) → map.get k.rows x ≡ Some r → bound_of r.detail ≡ Some b → RestsIn k (detail_of r.detail) b)
      → (x : ℕ) (r : Object) (b : Binding) → map.get n.rows x ≡ Some r → bound_of r.detail ≡ Some b → RestsIn n (detail_of r.detail) b
  bound_at used here own old x r b some is = goes_on r b (cases (id == x) (now_at x r some))
    where
      cases : (t : Bool) → (if t then Some o else map.get k.rows x) ≡ Some r → RestsIn k (detail_of r.detail) b
      cases true now = subst (λ q. bound_of q.detail ≡ Some b → RestsIn k (detail_of q.detail) b) (same_Some o r now) (own b) is
      cases false now = old x r b now is

      goes_on : (r : Object) (b : Binding) → RestsIn k (detail_of r.detail) b → RestsIn n (detail_of r.detail) b
      goes_on r b rests = record {
        used = let u = ap (λ f. f b.memory) used in let was = rests.used in grind (arith, u, was);
        inside = λ m live. inside m (id == b.memory) refl (now_at b.memory m live);
      }
        where
          inside : (m : Object) (t : Bool) → (id == b.memory) ≡ t → (if t then Some o else map.get k.rows b.memory) ≡ Some m
              → b.offset + detail_size (detail_of r.detail) ≤ detail_size (detail_of m.detail)
          inside m true e now =
              let same : id ≡ b.memory = grind (arith, nat_tests) in
              subst (λ q. b.offset + detail_size (detail_of r.detail) ≤ detail_size (detail_of q.detail)) (same_Some o m now) (here b (detail_of r.detail) rests same)
          inside m false e now = rests.inside m now

  -- the id of the row is used now
  pub used_inserted : n.ended ≡ k.ended → was_used n ≡ (λ other. id == other || was_used k other)
  used_inserted ended = λ i other. (each other) i
    where
      each : (other : ℕ) → was_used n other ≡ (id == other || was_used k other)
      each other =
          let at = ap (λ m. map.get m other) rows ∙ at_insert k.rows id o other in
          let same = ap (λ s. holds s other) ended in
          grind (arith, nat_tests, at, same)

  pub sound_created : was_used k id ≡ false → n.ended ≡ k.ended → IsRow id o → bound_of o.detail ≡ None
      → map.len k.rows < max_live_objects → bytes_in k.rows + detail_bytes (detail_of o.detail) ≤ max_live_bytes → IsSound k → IsSound n
  sound_created unused ended is unbound few small sound = record {
    row = λ x r some. row_at x r is sound.row some;
    bound =
        bound_at (used_inserted ended)
        (λ b d rests same. let was = rests.used in let at = ap (was_used k) same in absurd (grind (arith, unused, was, at)))
        (λ b some. absurd (grind (arith, unbound, some)))
        sound.bound;
    few = let a = ap map.len rows in let b = len_created k.rows id o (unused_fresh k id unused) in omega (arith, a, b, few);
    small = let a = ap bytes_in rows in let b = total_created k.rows id o (unused_fresh k id unused) (λ id o. detail_bytes (detail_of o.detail)) in omega (arith, a, b, small);
  }

  pub sound_changed : (before : Object) → map.get k.rows id ≡ Some before → n.ended ≡ k.ended → o.id ≡ before.id → o.kind ≡ before.kind → detail_of o.detail ≡ detail_of before.detail
      → ((b : Binding) → bound_of o.detail ≡ Some b → RestsIn k (detail_of o.detail) b) → IsSound k → IsSound n
  sound_changed before some ended same_id same_kind parameters rests sound = record {
    row = λ x r some. row_at x r is sound.row some;
    bound =
        bound_at (used_inserted ended)
        (λ b d rests same.
        let at : map.get k.rows b.memory ≡ Some before = rw (sym same) some in
        subst (λ p. b.offset + detail_size d ≤ detail_size p) (sym parameters) (rests.inside before at))
        rests sound.bound;
    few = let a = ap map.len rows in let b = len_changed k.rows id before some o in let c = sound.few in omega (arith, a, b, c);
    small =
        let a = ap bytes_in rows in
        let b = total_changed k.rows id before some o (λ id o. detail_bytes (detail_of o.detail)) (ap detail_bytes parameters) in
        let c = sound.small in
        omega (arith, a, b, c);
  }
    where
      is : IsRow id o
      is = let old = sound.row id before some in record {
        same_id = same_id ∙ old.same_id;
        not_zero = old.not_zero;
        same_kind = same_kind ∙ old.same_kind ∙ ap kind_of (sym parameters);
        within = ap is_within parameters ∙ old.within;
      }

module _ (m n : FinMap nat_cmp Object) (children children' : ℕ → ℕ) (bytes bytes' count count' : ℕ) (id : ℕ) (o : Object) where
  pub indexed_created : n ≡ map.insert m id o → map.get m id ≡ None
      → children' ≡ (λ q. if o.parent == q then children q + 1 else children q) → bytes' ≡ bytes + detail_bytes (detail_of o.detail) → count' ≡ count + 1
      → IsIndexed m children bytes count → IsIndexed n children' bytes' count'
  indexed_created rows none by_parent in_all in_number old = record {
    by_parent = λ parent.
        let now = ap (λ f. f parent) by_parent in
        let before = old.by_parent parent in
        let is = ap (λ m. children_in m parent) rows in
        let total = total_created m id o none (λ id o. if o.parent == parent then 1 else 0) in
        grind (arith, nat_tests, now, before, is, total);
    in_all =
        let before = old.in_all in
        let is = ap bytes_in rows in
        let total = total_created m id o none (λ id o. detail_bytes (detail_of o.detail)) in
        omega (arith, in_all, before, is, total);
    in_number =
        let before = old.in_number in
        let is = ap map.len rows in
        let more = len_created m id o none in
        omega (arith, in_number, before, is, more);
  }

  pub indexed_removed : n ≡ map.remove m id → map.get m id ≡ Some o
      → children' ≡ (λ q. if o.parent == q then children q - 1 else children q) → bytes' ≡ bytes - detail_bytes (detail_of o.detail) → count' ≡ count - 1
      → IsIndexed m children bytes count → IsIndexed n children' bytes' count'
  indexed_removed rows some by_parent in_all in_number old = record {
    by_parent = λ parent.
        let now = ap (λ f. f parent) by_parent in
        let before = old.by_parent parent in
        let is = ap (λ m. children_in m parent) rows in
        let total = total_removed m id o some (λ id o. if o.parent == parent then 1 else 0) in
        grind (arith, nat_tests, now, before, is, total);
    in_all =
        let before = old.in_all in
        let is = ap bytes_in rows in
        let total = total_removed m id o some (λ id o. detail_bytes (detail_of o.detail)) in
        omega (arith, in_all, before, is, total);
    in_number =
        let before = old.in_number in
        let is = ap map.len rows in
        let less = len_removed m id o some in
        omega (arith, in_number, before, is, less);
  }

pub indexed_changed : (m n : FinMap nat_cmp Object) (children : ℕ → ℕ) (bytes count id : ℕ) (o changed : Object)
    → n ≡ map.insert m id changed → map.get m id ≡ Some o → changed.parent ≡ o.parent
    → detail_bytes (detail_of changed.detail) ≡ detail_bytes (detail_of o.detail) → IsIndexed m children bytes count → IsIndexed n children bytes count
indexed_changed m n children bytes count id o changed rows some parent same old = record {
  by_parent = λ p.
      old.by_parent p ∙ sym (total_changed m id o some changed (λ id o. if o.parent == p then 1 else 0) (ap (λ q. if q == p then 1 else 0) parent))
      ∙ ap (λ m. children_in m p) (sym rows);
  in_all = old.in_all ∙ sym (total_changed m id o some changed (λ id o. detail_bytes (detail_of o.detail)) same) ∙ ap bytes_in (sym rows);
  in_number = old.in_number ∙ sym (len_changed m id o some changed) ∙ ap map.len (sym rows);
}

pub sound_removed : (k n : Kept) (id : ℕ) (o : Object) → n.rows ≡ map.remove k.rows id → map.get k.rows id ≡ Some o → was_used n ≡ was_used k → IsSound k → IsSound n
sound_removed k n id o rows some used sound = record {
  row = λ x r now.
      let at = ap (λ m. map.get m x) rows ∙ at_remove k.rows id x in
      sound.row x r (grind (arith, nat_tests, at, now));
  bound = λ x r b now is.
      let at = ap (λ m. map.get m x) rows ∙ at_remove k.rows id x in
      let old = sound.bound x r b (grind (arith, nat_tests, at, now)) is in
      record {
        used = ap (λ f. f b.memory) used ∙ old.used;
        inside = λ m live. let here = ap (λ m. map.get m b.memory) rows ∙ at_remove k.rows id b.memory in old.inside m (grind (arith, nat_tests, here, live));
      };
  few = let a = ap map.len rows in let b = len_removed k.rows id o some in let c = sound.few in omega (arith, a, b, c);
  small =
      let a = ap bytes_in rows in
      let b = total_removed k.rows id o some (λ id o. detail_bytes (detail_of o.detail)) in
      let c = sound.small in
      omega (arith, a, b, c);
}
