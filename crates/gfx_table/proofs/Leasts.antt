-- The least id above a given one, and how many rows there are, where the rows are in a tree and in a list.
use Rattle.std.proofs.Common.{◌≡◌, ℕ, ◌+◌, false, ◌&&◌, is_some, T, List, [], ◌∷◌, ◌++◌, length, min, nat_lt, Option, Some, None, refl, sym, ap, ◌∙◌, arith, if◌then◌else◌}
use Rattle.std.specs.Prelude.{map as each, not}
use Rattle.std.specs.List.{find as first_passing, filter, AllByRecursion}
use Rattle.std.specs.List.Sorted.{IsStrictlySortedBy}
use Rattle.std.specs.Ordering.{nat_cmp, is_lt}
use Rattle.std.specs.declared.cmp.Ordering.TheVariants.{Less}
use Rattle.std.specs.Cmp.{nat_cmp_total}
use Rattle.std.specs.Map.{keys_of}
use Rattle.std.proofs.lemmas.Bool.Decides.{nat_tests}
use Rattle.std.proofs.lemmas.Map.Keys.{sorted_head, sorted_tail}
use Rattle.std.specs.FinMap as map
use Rattle.std.specs.FinMap.{FinMap, find, put, is_sorted, entries, get-entries, get-from_entries, entries-insert, entries-from_sorted, len-insert, len-empty, len-entries, same_map, nat_cmp-IsAntisymmetric}
use Rattle.std.specs.FinMap.Entries.{below_all}
use Rattle.gfx_table.specs.Slots.{least_above}
use Rattle.gfx_table.specs.Values.{none_above}
use Rattle.gfx_table.specs.Joined.{joined, IsApart}
use Rattle.gfx_table.specs.Least.{lesser_of, least_in}

lesser_assoc : (a b c : Option ℕ) → lesser_of (lesser_of a b) c ≡ lesser_of a (lesser_of b c)
lesser_assoc None b c = refl
lesser_assoc (Some x) None c = refl
lesser_assoc (Some x) (Some y) None = refl
lesser_assoc (Some x) (Some y) (Some z) = let e : min (min x y) z ≡ min x (min y z) = omega arith in ap Some e

no_entries : {X : Type 0} (es : List (ℕ × X)) → length es ≡ 0 → es ≡ []
no_entries [] e = refl
no_entries (x ∷ es) e = absurd (omega arith)

least_empty : (X : Type 0) (after : ℕ) → least_above {X = X} map.empty after ≡ None
least_empty X after =
    let none : entries (map.empty {X = X} {R = nat_cmp}) ≡ [] = no_entries _ (sym (len-entries map.empty) ∙ len-empty nat_cmp X) in
    ap (λ (es : List (ℕ × X)). first_passing (λ id. nat_lt after id) (each (λ e. e.0) es)) none

module _ {X : Type 0} where
  -- the first id above the given one
  abbrev first_above : ℕ → List (ℕ × X) → Option ℕ
  first_above after es = first_passing (λ id. nat_lt after id) (each (λ e. e.0) es)

  pub first_put : (after k : ℕ) (v : X) (es : List (ℕ × X)) → first_above after (put nat_cmp k v es) ≡ lesser_of (if nat_lt after k then Some k else None) (first_above after es)
  first_put after k v [] = grind (arith, nat_tests)
  first_put after k v (e ∷ es) = let rest = first_put after k v es in grind (arith, nat_tests)

  least_insert : (m : FinMap nat_cmp X) (k : ℕ) (v : X) (after : ℕ) → least_above (map.insert m k v) after ≡ lesser_of (if nat_lt after k then Some k else None) (least_above m after)
  least_insert m k v after = ap (first_above after) (entries-insert nat_cmp_total m k v) ∙ first_put after k v (entries m)

  least_entries : (es : List (ℕ × X)) (after : ℕ) → least_above (map.from_entries {R = nat_cmp} es) after ≡ least_in after es
  least_entries [] after = least_empty X after
  least_entries (e ∷ es) after = least_insert (map.from_entries es) e.0 e.1 after ∙ ap (lesser_of (if nat_lt after e.0 then Some e.0 else None)) (least_entries es after)

  least_append : (es fs : List (ℕ × X)) (after : ℕ) → least_in after (es ++ fs) ≡ lesser_of (least_in after es) (least_in after fs)
  least_append [] fs after = refl
  least_append (e ∷ es) fs after =
      ap (lesser_of (if nat_lt after e.0 then Some e.0 else None)) (least_append es fs after)
      ∙ sym (lesser_assoc (if nat_lt after e.0 then Some e.0 else None) (least_in after es) (least_in after fs))

  rebuilt : (m : FinMap nat_cmp X) → map.from_entries (entries m) ≡ m
  rebuilt m = same_map nat_cmp_total nat_cmp-IsAntisymmetric _ m (λ q. get-from_entries nat_cmp_total (entries m) q ∙ sym (get-entries m q))

  pub least-joined : (es : List (ℕ × X)) (m : FinMap nat_cmp X) (after : ℕ) → lesser_of (least_in after es) (least_above m after) ≡ least_above (joined es m) after
  unfolding joined
  least-joined es m after =
      ap (lesser_of (least_in after es)) (sym (sym (least_entries (entries m) after) ∙ ap (λ n. least_above n after) (rebuilt m)))
      ∙ sym (least_append es (entries m) after) ∙ sym (least_entries (es ++ entries m) after)

  -- ---- a tree's entries are in order

  below_first : (x : ℕ) (es : List (ℕ × X)) → AllByRecursion (λ y. nat_cmp x y ≡ Less) (keys_of es) → T (below_all nat_cmp x es)
  below_first x [] h = tt
  below_first x (e ∷ es) h = let rest = below_first x es h.1 in let here = h.0 in grind (arith, nat_tests, here)

  pub rising_tree : (es : List (ℕ × X)) → IsStrictlySortedBy nat_cmp (keys_of es) → T (is_sorted nat_cmp es)
  rising_tree [] h = tt
  rising_tree (e ∷ es) h =
      let below = below_first e.0 es (sorted_head nat_cmp e.0 (keys_of es) h) in
      let rest = rising_tree es (sorted_tail nat_cmp e.0 (keys_of es) h) in
      grind arith

  first_of_rising : (es : List (ℕ × X)) (after : ℕ) → T (is_sorted nat_cmp es) → first_above after es ≡ least_in after es
  first_of_rising es after h =
      sym (ap (first_above after) (entries-from_sorted nat_cmp es h))
      ∙ ap (λ n. least_above n after) (sym (rebuilt (map.from_sorted es)))
      ∙ ap (λ l. least_above (map.from_entries {R = nat_cmp} l) after) (entries-from_sorted nat_cmp es h)
      ∙ least_entries es after

  abbrev first_id : List (ℕ × X) → Option ℕ
  first_id [] = None
  first_id (e ∷ es) = Some e.0

  first_filtered : (es : List (ℕ × X)) (after : ℕ) → first_id (filter (λ e. is_lt (nat_cmp after e.0) && not false) es) ≡ first_above after es
  first_filtered [] after = refl
  first_filtered (e ∷ es) after = let rest = first_filtered es after in grind (arith, nat_tests)

  -- what the first entry of a tree's range says
  pub range_first : (es part rest : List (ℕ × X)) (after : ℕ) (e : ℕ × X) → part ≡ filter (λ e. is_lt (nat_cmp after e.0) && not false) es → part ≡ e ∷ rest
      → IsStrictlySortedBy nat_cmp (keys_of es) → Some e.0 ≡ least_in after es
  range_first es part rest after e is at h = sym (sym (first_of_rising es after (rising_tree es h)) ∙ sym (first_filtered es after) ∙ ap first_id (sym is ∙ at))

  pub range_empty : (es part : List (ℕ × X)) (after : ℕ) → part ≡ filter (λ e. is_lt (nat_cmp after e.0) && not false) es → part ≡ []
      → IsStrictlySortedBy nat_cmp (keys_of es) → None ≡ least_in after es
  range_empty es part after is at h = sym (sym (first_of_rising es after (rising_tree es h)) ∙ sym (first_filtered es after) ∙ ap first_id (sym is ∙ at))

  -- ---- how many rows there are

  find_past : (es fs : List (ℕ × X)) (q : ℕ) → find nat_cmp q es ≡ None → find nat_cmp q (es ++ fs) ≡ find nat_cmp q fs
  find_past [] fs q none = refl
  find_past (e ∷ es) fs q none = let rest = find_past es fs q in grind (arith, nat_tests)

  len_parts : (es fs : List (ℕ × X)) → T (is_sorted nat_cmp es) → ((q : ℕ) → is_some (find nat_cmp q es) && is_some (find nat_cmp q fs) ≡ false)
      → map.len (map.from_entries {R = nat_cmp} (es ++ fs)) ≡ length es + map.len (map.from_entries {R = nat_cmp} fs)
  len_parts [] fs h apart = omega arith
  len_parts (e ∷ es) fs h apart =
      let below : T (below_all nat_cmp e.0 es) = grind arith in
      let tail : T (is_sorted nat_cmp es) = grind arith in
      let none : find nat_cmp e.0 es ≡ None = none_above es e.0 e.0 below (omega arith) in
      let here : is_some (find nat_cmp e.0 fs) ≡ false = let a = apart e.0 in grind (arith, nat_tests, a) in
      let rest = len_parts es fs tail (λ q. let a = apart q in let same : q ≡ e.0 → find nat_cmp q es ≡ None = λ p. rw p none in grind (arith, nat_tests, a, same)) in
      let got = get-from_entries nat_cmp_total (es ++ fs) e.0 in
      let past = find_past es fs e.0 none in
      let more = len-insert nat_cmp_total (map.from_entries (es ++ fs)) e.0 e.1 in
      let fresh : is_some (map.get (map.from_entries {R = nat_cmp} (es ++ fs)) e.0) ≡ false = ap is_some (got ∙ past) ∙ here in
      grind (arith, rest, more, fresh)

  pub len-joined : (es : List (ℕ × X)) (m : FinMap nat_cmp X) → IsStrictlySortedBy nat_cmp (keys_of es) → IsApart es m → length es + map.len m ≡ map.len (joined es m)
  unfolding joined
  len-joined es m h apart =
      ap (λ n. length es + map.len n) (sym (rebuilt m))
      ∙ sym (len_parts es (entries m) (rising_tree es h) (λ q. rw (sym (get-entries m q)) (apart q)))
