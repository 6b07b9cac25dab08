-- What a change of one row makes of the ids under a group, and of their number.
use Rattle.std.proofs.Common.{◌≡◌, ℕ, ◌+◌, ◌-◌, ◌==◌, ◌&&◌, ◌||◌, Bool, true, false, Option, Some, None, if◌then◌else◌, refl, ap, sym, ◌∙◌, arith}
use Rattle.std.specs.Prelude.{option_and_then}
use Rattle.std.specs.Ordering.{nat_cmp}
use Rattle.std.specs.FinMap as map
use Rattle.std.specs.FinMap.{FinMap, get-empty}
use Rattle.std.proofs.lemmas.Bool.Decides.{nat_tests}
use Rattle.gfx_objects.specs.declared.object.Object.{Object}
use Rattle.gfx_objects.specs.Children.{is_at}
use Rattle.gfx_objects.specs.Object.{detail_of, bound_of, owner_of, memory_of, surface_of}
use Rattle.gfx_objects.specs.Objects.{AreGrouped, count_in, IsGrouped}
use Rattle.gfx_objects.proofs.Index.{at_insert, at_remove, total_created, total_removed, total_changed, total_empty}

-- ---- one set of groups

module _ (group_of : Object → Option ℕ) (m n : FinMap nat_cmp Object) (id : ℕ) (old new : ℕ → ℕ → Bool) (was : AreGrouped group_of m old) where
  -- a row is put under the id
  pub put_under : (o : Object) → n ≡ map.insert m id o → ((g x : ℕ) → new g x ≡ (if id == x then is_at g (group_of o) else old g x)) → AreGrouped group_of n new
  put_under o rows sets g x = sets g x ∙ cases (id == x) ∙ ap (λ q. is_at g (option_and_then group_of q)) (sym (ap (λ m. map.get m x) rows ∙ at_insert m id o x))
    where
      cases : (t : Bool) → (if t then is_at g (group_of o) else old g x) ≡ is_at g (option_and_then group_of (if t then Some o else map.get m x))
      cases true = refl
      cases false = was g x

  -- the row under the id goes
  pub gone_under : n ≡ map.remove m id → ((g x : ℕ) → new g x ≡ (if id == x then false else old g x)) → AreGrouped group_of n new
  gone_under rows sets g x = sets g x ∙ cases (id == x) ∙ ap (λ q. is_at g (option_and_then group_of q)) (sym (ap (λ m. map.get m x) rows ∙ at_remove m id x))
    where
      cases : (t : Bool) → (if t then false else old g x) ≡ is_at g (option_and_then group_of (if t then None else map.get m x))
      cases true = refl
      cases false = was g x

  -- an id that had no row is put into its group
  pub put_new : (o : Object) → map.get m id ≡ None → ((g x : ℕ) → new g x ≡ ((is_at g (group_of o) && id == x) || old g x))
      → (g x : ℕ) → new g x ≡ (if id == x then is_at g (group_of o) else old g x)
  put_new o none sets g x =
      let now = sets g x in
      let before = was g id ∙ ap (λ q. is_at g (option_and_then group_of q)) none in
      let here : id ≡ x → old g id ≡ old g x = ap (old g) in
      grind (arith, nat_tests, now, before, here)

  -- an id is taken out of its group
  pub take_out : (o : Object) → map.get m id ≡ Some o → ((g x : ℕ) → new g x ≡ (if is_at g (group_of o) && id == x then false else old g x))
      → (g x : ℕ) → new g x ≡ (if id == x then false else old g x)
  take_out o some sets g x =
      let now = sets g x in
      let before = was g id ∙ ap (λ q. is_at g (option_and_then group_of q)) some in
      let here : id ≡ x → old g id ≡ old g x = ap (old g) in
      grind (arith, nat_tests, now, before, here)

module _ (group_of : Object → Option ℕ) (m : FinMap nat_cmp Object) (id : ℕ) (sets : ℕ → ℕ → Bool) (was : AreGrouped group_of m sets) where
  -- an id whose row stays in its group
  pub stays_under : (before now : Object) → map.get m id ≡ Some before → group_of now ≡ group_of before → (g x : ℕ) → sets g x ≡ (if id == x then is_at g (group_of now) else sets g x)
  stays_under before now some same g x =
      let old = was g id ∙ ap (λ q. is_at g (option_and_then group_of q)) some ∙ ap (is_at g) (sym same) in
      let here : id ≡ x → sets g id ≡ sets g x = ap (sets g) in
      grind (arith, nat_tests, old, here)

-- ---- all of them

pub no_groups : (m : FinMap nat_cmp Object) (owned resting : ℕ → ℕ → Bool) (swapchains : ℕ → ℕ) → m ≡ map.empty
    → owned ≡ (λ g x. false) → resting ≡ (λ g x. false) → swapchains ≡ (λ g. 0) → IsGrouped m owned resting swapchains
no_groups m owned resting swapchains rows no_owned no_resting no_swapchains = record {
  by_owner = λ g x. ap (λ f. f g x) no_owned ∙ sym (ap (λ q. is_at g (option_and_then owner_of q)) (none x));
  by_memory = λ g x. ap (λ f. f g x) no_resting ∙ sym (ap (λ q. is_at g (option_and_then (λ o. memory_of o.detail) q)) (none x));
  by_surface = λ g. ap (λ f. f g) no_swapchains
      ∙ sym (ap (λ m. count_in (λ o. surface_of (detail_of o.detail)) m g) rows ∙ total_empty (λ id o. if is_at g (surface_of (detail_of o.detail)) then 1 else 0));
}
  where
    none : (x : ℕ) → map.get m x ≡ None
    none x = ap (λ m. map.get m x) rows ∙ get-empty nat_cmp x

pub grouped_same : (m n : FinMap nat_cmp Object) (owned owned' resting resting' : ℕ → ℕ → Bool) (swapchains swapchains' : ℕ → ℕ)
    → n ≡ m → owned' ≡ owned → resting' ≡ resting → swapchains' ≡ swapchains → IsGrouped m owned resting swapchains → IsGrouped n owned' resting' swapchains'
grouped_same m n owned owned' resting resting' swapchains swapchains' rows same_owned same_resting same_swapchains old = record {
  by_owner = λ g x. ap (λ f. f g x) same_owned ∙ old.by_owner g x ∙ ap (λ m. is_at g (option_and_then owner_of (map.get m x))) (sym rows);
  by_memory = λ g x. ap (λ f. f g x) same_resting ∙ old.by_memory g x ∙ ap (λ m. is_at g (option_and_then (λ o. memory_of o.detail) (map.get m x))) (sym rows);
  by_surface = λ g. ap (λ f. f g) same_swapchains ∙ old.by_surface g ∙ ap (λ m. count_in (λ o. surface_of (detail_of o.detail)) m g) (sym rows);
}

module _ (m n : FinMap nat_cmp Object) (owned owned' resting resting' : ℕ → ℕ → Bool) (swapchains swapchains' : ℕ → ℕ) (id : ℕ) (o : Object)
    (old : IsGrouped m owned resting swapchains) where
  pub grouped_created : n ≡ map.insert m id o → map.get m id ≡ None → bound_of o.detail ≡ None
      → ((g x : ℕ) → owned' g x ≡ ((is_at g (owner_of o) && id == x) || owned g x)) → resting' ≡ resting
      → ((g : ℕ) → swapchains' g ≡ swapchains g + (if is_at g (surface_of (detail_of o.detail)) then 1 else 0)) → IsGrouped n owned' resting' swapchains'
  grouped_created rows none unbound put_owned same_resting more = record {
    by_owner = put_under owner_of m n id owned owned' old.by_owner o rows (put_new owner_of m n id owned owned' old.by_owner o none put_owned);
    by_memory = put_under (λ o. memory_of o.detail) m n id resting resting' old.by_memory o rows
        (put_new (λ o. memory_of o.detail) m n id resting resting' old.by_memory o none
        (λ g x. let same = ap (λ f. f g x) same_resting in let nowhere = unbound in grind (arith, same, nowhere)));
    by_surface = λ g.
        let now = more g in
        let before = old.by_surface g in
        let is = ap (λ m. count_in (λ o. surface_of (detail_of o.detail)) m g) rows in
        let all = total_created m id o none (λ id o. if is_at g (surface_of (detail_of o.detail)) then 1 else 0) in
        omega (arith, now, before, is, all);
  }

  pub grouped_removed : n ≡ map.remove m id → map.get m id ≡ Some o
      → ((g x : ℕ) → owned' g x ≡ (if is_at g (owner_of o) && id == x then false else owned g x))
      → ((g x : ℕ) → resting' g x ≡ (if is_at g (memory_of o.detail) && id == x then false else resting g x))
      → ((g : ℕ) → swapchains' g ≡ swapchains g - (if is_at g (surface_of (detail_of o.detail)) then 1 else 0)) → IsGrouped n owned' resting' swapchains'
  grouped_removed rows some take_owned take_resting less = record {
    by_owner = gone_under owner_of m n id owned owned' old.by_owner rows (take_out owner_of m n id owned owned' old.by_owner o some take_owned);
    by_memory = gone_under (λ o. memory_of o.detail) m n id resting resting' old.by_memory rows
        (take_out (λ o. memory_of o.detail) m n id resting resting' old.by_memory o some take_resting);
    by_surface = λ g.
        let now = less g in
        let before = old.by_surface g in
        let is = ap (λ m. count_in (λ o. surface_of (detail_of o.detail)) m g) rows in
        let all = total_removed m id o some (λ id o. if is_at g (surface_of (detail_of o.detail)) then 1 else 0) in
        omega (arith, now, before, is, all);
  }

  -- what is owned and the swapchains stay where only a binding, a map or a layout changes
  pub grouped_changed : (changed : Object) → n ≡ map.insert m id changed → map.get m id ≡ Some o → changed.parent ≡ o.parent → detail_of changed.detail ≡ detail_of o.detail
      → ((g x : ℕ) → resting' g x ≡ (if id == x then is_at g (memory_of changed.detail) else resting g x)) → owned' ≡ owned → swapchains' ≡ swapchains
      → IsGrouped n owned' resting' swapchains'
  grouped_changed changed rows some parent parameters moved same_owned same_swapchains = record {
    by_owner = λ g x. ap (λ f. f g x) same_owned
        ∙ put_under owner_of m n id owned owned old.by_owner changed rows (stays_under owner_of m id owned old.by_owner o changed some (same_owner changed parent parameters)) g x;
    by_memory = put_under (λ o. memory_of o.detail) m n id resting resting' old.by_memory changed rows moved;
    by_surface = λ g. ap (λ f. f g) same_swapchains ∙ old.by_surface g
        ∙ sym (total_changed m id o some changed (λ id o. if is_at g (surface_of (detail_of o.detail)) then 1 else 0) (ap (λ d. if is_at g (surface_of d) then 1 else 0) parameters))
        ∙ ap (λ m. count_in (λ o. surface_of (detail_of o.detail)) m g) (sym rows);
  }
    where
      same_owner : (changed : Object) → changed.parent ≡ o.parent → detail_of changed.detail ≡ detail_of o.detail → owner_of changed ≡ owner_of o
      same_owner changed parent parameters = grind (arith, parent, parameters)
