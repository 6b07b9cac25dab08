-- What changes of the rows make of the counts of children and the bytes.
use Rattle.std.proofs.Common.{◌≡◌, ℕ, ◌+◌, ◌≤◌, ◌==◌, Some, None, is_some, List, [], ◌∷◌, length, if◌then◌else◌, refl, ap, sym, ◌∙◌, arith}
use Rattle.std.specs.Prelude.{sum_by}
use Rattle.std.specs.Option.{option_map_or}
use Rattle.std.specs.Ordering.{nat_cmp}
use Rattle.std.specs.FinMap as map
use Rattle.std.specs.FinMap.{FinMap, find, entries, get-entries, len-empty, len-insert, len-remove, len-entries}
use Rattle.std.specs.Cmp.{nat_cmp_total}
use Rattle.gfx_table.specs.Rows.{total, weight, total-insert, total-remove, got-insert, got-remove}
use Rattle.gfx_objects.specs.declared.object.Object.{Object}

pub at_insert : {X : Type 0} (m : FinMap nat_cmp X) (id : ℕ) (o : X) (q : ℕ) → map.get (map.insert m id o) q ≡ (if id == q then Some o else map.get m q)
at_insert m id o q = ap (λ f. f q) (got-insert m id o)

pub at_remove : {X : Type 0} (m : FinMap nat_cmp X) (id q : ℕ) → map.get (map.remove m id) q ≡ (if id == q then None else map.get m q)
at_remove m id q = ap (λ f. f q) (got-remove m id)

no_weight : (weigh : ℕ → Object → ℕ) (m : FinMap nat_cmp Object) (id : ℕ) → map.get m id ≡ None → weight weigh m id ≡ 0
no_weight weigh m id none = ap (λ o. option_map_or (weigh id) o 0) none

its_weight : (weigh : ℕ → Object → ℕ) (m : FinMap nat_cmp Object) (id : ℕ) (o : Object) → map.get m id ≡ Some o → weight weigh m id ≡ weigh id o
its_weight weigh m id o some = ap (λ o. option_map_or (weigh id) o 0) some

module _ (rows : FinMap nat_cmp Object) (id : ℕ) (o : Object) where
  -- ---- a new row

  module _ (none : map.get rows id ≡ None) where
    pub total_created : (weigh : ℕ → Object → ℕ) → total weigh (map.insert rows id o) ≡ total weigh rows + weigh id o
    total_created weigh = let a = total-insert weigh rows id o in let b = no_weight weigh rows id none in omega (arith, a, b)

    pub len_created : map.len (map.insert rows id o) ≡ map.len rows + 1
    len_created = let a = len-insert nat_cmp_total rows id o in let b = ap is_some none in grind (arith, a, b)

  -- ---- a row that goes

  module _ (some : map.get rows id ≡ Some o) where
    pub total_removed : (weigh : ℕ → Object → ℕ) → total weigh (map.remove rows id) + weigh id o ≡ total weigh rows
    total_removed weigh = let a = total-remove weigh rows id in let b = its_weight weigh rows id o some in omega (arith, a, b)

    pub len_removed : map.len (map.remove rows id) + 1 ≡ map.len rows
    len_removed =
        let a = len-remove nat_cmp_total rows id in
        let b = ap is_some some in
        let c = some_entry (entries rows) (sym (get-entries rows id) ∙ some) in
        let d = len-entries rows in
        grind (arith, a, b, c, d)
      where
        some_entry : (es : List (ℕ × Object)) → find nat_cmp id es ≡ Some o → 1 ≤ length es
        some_entry [] found = absurd cc
        some_entry (e ∷ es) found = omega arith

    -- ---- a row that is changed

    module _ (changed : Object) where
      pub total_changed : (weigh : ℕ → Object → ℕ) → weigh id changed ≡ weigh id o → total weigh (map.insert rows id changed) ≡ total weigh rows
      total_changed weigh same = let a = total-insert weigh rows id changed in let b = its_weight weigh rows id o some in omega (arith, a, b, same)

      pub len_changed : map.len (map.insert rows id changed) ≡ map.len rows
      len_changed = let a = len-insert nat_cmp_total rows id changed in let b = ap is_some some in grind (arith, a, b)

-- ---- no rows

pub total_empty : (weigh : ℕ → Object → ℕ) → total weigh map.empty ≡ 0
total_empty weigh =
    let none = no_entries _ (sym (len-entries (map.empty {K = ℕ} {X = Object} {R = nat_cmp})) ∙ len-empty nat_cmp Object) in
    ap (sum_by (λ e. weigh e.0 e.1)) none
  where
    no_entries : (es : List (ℕ × Object)) → length es ≡ 0 → es ≡ []
    no_entries [] e = refl
    no_entries (x ∷ es) e = absurd (omega arith)
