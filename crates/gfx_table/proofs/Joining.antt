-- What a change of the tree or of the spill list makes of the map that the two are.
use Rattle.std.proofs.Common.{◌≡◌, ℕ, true, false, cond, ◌&&◌, is_some, List, [], ◌∷◌, ◌++◌, Option, Some, None, refl, sym, ap, ◌∙◌, arith}
use Rattle.std.specs.Option.{option_or}
use Rattle.std.specs.Ordering.{nat_cmp, eq_by_cmp}
use Rattle.std.specs.Cmp.{nat_cmp_total}
use Rattle.std.specs.Map.{lookup}
use Rattle.std.specs.BTreeMap.{is_at}
use Rattle.std.proofs.lemmas.Bool.Decides.{nat_tests}
use Rattle.std.specs.FinMap as map
use Rattle.std.specs.FinMap.{FinMap, find, entries, get-entries, get-from_entries, get-insert, get-remove, same_map, nat_cmp-IsAntisymmetric}
use Rattle.gfx_table.specs.Joined.{joined, IsApart}

module _ {X : Type 0} where
  pub same_keys : (m n : FinMap nat_cmp X) → ((q : ℕ) → map.get m q ≡ map.get n q) → m ≡ n
  same_keys m n is = same_map nat_cmp_total nat_cmp-IsAntisymmetric m n is

  -- a tree's look-up is that of its entries
  pub lookup_find : (es : List (ℕ × X)) (q : ℕ) → lookup (is_at (nat_cmp q)) es ≡ find nat_cmp q es
  lookup_find [] q = refl
  lookup_find (e ∷ es) q = ap (λ r. cond (eq_by_cmp nat_cmp q e.0) (Some e.1) r) (lookup_find es q)

  pub find_append : (es fs : List (ℕ × X)) (q : ℕ) → find nat_cmp q (es ++ fs) ≡ option_or (find nat_cmp q es) (find nat_cmp q fs)
  find_append [] fs q = refl
  find_append (e ∷ es) fs q = let rest = find_append es fs q in grind arith

  pub get-joined : (es : List (ℕ × X)) (m : FinMap nat_cmp X) (q : ℕ) → map.get (joined es m) q ≡ option_or (lookup (is_at (nat_cmp q)) es) (map.get m q)
  unfolding joined
  get-joined es m q =
      get-from_entries nat_cmp_total (es ++ entries m) q ∙ find_append es (entries m) q
      ∙ ap (option_or (find nat_cmp q es)) (sym (get-entries m q)) ∙ ap (λ o. option_or o (map.get m q)) (sym (lookup_find es q))

  -- what the tree answers, and else the list
  pub got : (es : List (ℕ × X)) (m : FinMap nat_cmp X) (q : ℕ) (o : Option X) → o ≡ lookup (is_at (nat_cmp q)) es → option_or o (map.get m q) ≡ map.get (joined es m) q
  got es m q o e = ap (λ o. option_or o (map.get m q)) e ∙ sym (get-joined es m q)

  pub option_or-None : (o : Option X) → option_or o None ≡ o
  option_or-None None = refl
  option_or-None (Some x) = refl

  -- where the list has no row there
  pub got_in_tree : (es : List (ℕ × X)) (m : FinMap nat_cmp X) (q : ℕ) (o : Option X) → o ≡ lookup (is_at (nat_cmp q)) es → map.get m q ≡ None → o ≡ map.get (joined es m) q
  got_in_tree es m q o e none = sym (option_or-None o) ∙ ap (option_or o) (sym none) ∙ got es m q o e

  pub none_where_missing : (m : FinMap nat_cmp X) (q : ℕ) → is_some (map.get m q) ≡ false → map.get m q ≡ None
  none_where_missing m q e = cases (map.get m q) e
    where
      cases : (o : Option X) → is_some o ≡ false → o ≡ None
      cases None e = refl
      cases (Some x) e = cc

  pub joined_empty : (es : List (ℕ × X)) (m : FinMap nat_cmp X) → es ≡ [] → m ≡ map.empty → joined es m ≡ map.empty
  joined_empty es m e n = same_keys _ _ (λ q. get-joined es m q ∙ rw (e, n) refl)

  apart_at : (es : List (ℕ × X)) (m : FinMap nat_cmp X) (q : ℕ) → IsApart es m → is_some (lookup (is_at (nat_cmp q)) es) && is_some (map.get m q) ≡ false
  apart_at es m q apart = rw lookup_find (apart q)

  -- fs has the row v (or none) at the id k, and else what es has
  abbrev pub IsChanged : List (ℕ × X) → ℕ → Option X → List (ℕ × X) → Type 0
  IsChanged es k w fs = (q : ℕ) → lookup (is_at (nat_cmp q)) fs ≡ cond (is_at (nat_cmp k) q) w (lookup (is_at (nat_cmp q)) es)

  pub insert_in_tree : (es fs : List (ℕ × X)) (m : FinMap nat_cmp X) (k : ℕ) (v : X) → IsChanged es k (Some v) fs → joined fs m ≡ map.insert (joined es m) k v
  insert_in_tree es fs m k v changed = same_keys _ _ (λ q.
      let a = get-joined fs m q in
      let b = get-joined es m q in
      let c = get-insert nat_cmp_total (joined es m) k v q in
      let d = changed q in
      grind (arith, nat_tests, a, b, c, d))

  pub insert_in_list : (es fs : List (ℕ × X)) (m : FinMap nat_cmp X) (k : ℕ) (v : X) → fs ≡ es → lookup (is_at (nat_cmp k)) es ≡ None → joined fs (map.insert m k v) ≡ map.insert (joined es m) k v
  insert_in_list es fs m k v same none = rw same (same_keys _ _ (λ q.
      let a = get-joined es (map.insert m k v) q in
      let b = get-joined es m q in
      let c = get-insert nat_cmp_total (joined es m) k v q in
      let d = get-insert nat_cmp_total m k v q in
      let here : q ≡ k → lookup (is_at (nat_cmp q)) es ≡ None = λ p. rw p none in
      grind (arith, nat_tests, a, b, c, d, here)))

  pub remove_in_tree : (es fs : List (ℕ × X)) (m : FinMap nat_cmp X) (k : ℕ) → IsChanged es k None fs → map.get m k ≡ None → joined fs m ≡ map.remove (joined es m) k
  remove_in_tree es fs m k changed none = same_keys _ _ (λ q.
      let a = get-joined fs m q in
      let b = get-joined es m q in
      let c = get-remove nat_cmp_total (joined es m) k q in
      let d = changed q in
      let here : q ≡ k → map.get m q ≡ None = λ p. rw p none in
      grind (arith, nat_tests, a, b, c, d, here))

  pub remove_in_list : (es fs : List (ℕ × X)) (m : FinMap nat_cmp X) (k : ℕ) → fs ≡ es → lookup (is_at (nat_cmp k)) es ≡ None → joined fs (map.remove m k) ≡ map.remove (joined es m) k
  remove_in_list es fs m k same none = rw same (same_keys _ _ (λ q.
      let a = get-joined es (map.remove m k) q in
      let b = get-joined es m q in
      let c = get-remove nat_cmp_total (joined es m) k q in
      let d = get-remove nat_cmp_total m k q in
      let here : q ≡ k → lookup (is_at (nat_cmp q)) es ≡ None = λ p. rw p none in
      grind (arith, nat_tests, a, b, c, d, here)))

  -- ---- that no id is in both

  as_found : (es : List (ℕ × X)) (m : FinMap nat_cmp X) → ((q : ℕ) → is_some (lookup (is_at (nat_cmp q)) es) && is_some (map.get m q) ≡ false) → IsApart es m
  as_found es m apart q = rw lookup_find at (apart q)

  pub apart_insert_tree : (es fs : List (ℕ × X)) (m : FinMap nat_cmp X) (k : ℕ) (w : Option X) → IsApart es m → IsChanged es k w fs → map.get m k ≡ None → IsApart fs m
  apart_insert_tree es fs m k w apart changed none = as_found fs m (λ q.
      let a = apart_at es m q apart in
      let d = changed q in
      let here : q ≡ k → map.get m q ≡ None = λ p. rw p none in
      grind (arith, nat_tests, a, d, here))

  pub apart_insert_list : (es fs : List (ℕ × X)) (m : FinMap nat_cmp X) (k : ℕ) (v : X) → IsApart es m → fs ≡ es → lookup (is_at (nat_cmp k)) es ≡ None → IsApart fs (map.insert m k v)
  apart_insert_list es fs m k v apart same none = as_found fs _ (λ q.
      let a = apart_at es m q apart in
      let d = get-insert nat_cmp_total m k v q in
      let here : q ≡ k → lookup (is_at (nat_cmp q)) es ≡ None = λ p. rw p none in
      let e : lookup (is_at (nat_cmp q)) fs ≡ lookup (is_at (nat_cmp q)) es = rw same in
      grind (arith, nat_tests, a, d, e, here))

  pub apart_remove_tree : (es fs : List (ℕ × X)) (m : FinMap nat_cmp X) (k : ℕ) → IsApart es m → IsChanged es k None fs → IsApart fs m
  apart_remove_tree es fs m k apart changed = as_found fs m (λ q.
      let a = apart_at es m q apart in
      let d = changed q in
      grind (arith, nat_tests, a, d))

  pub apart_remove_list : (es fs : List (ℕ × X)) (m : FinMap nat_cmp X) (k : ℕ) → IsApart es m → fs ≡ es → IsApart fs (map.remove m k)
  apart_remove_list es fs m k apart same = as_found fs _ (λ q.
      let a = apart_at es m q apart in
      let d = get-remove nat_cmp_total m k q in
      let e : lookup (is_at (nat_cmp q)) fs ≡ lookup (is_at (nat_cmp q)) es = rw same in
      grind (arith, nat_tests, a, d, e))

  -- a row of the tree is in no spill list
  pub missing_in_list : (es : List (ℕ × X)) (m : FinMap nat_cmp X) (k : ℕ) (v : X) → IsApart es m → lookup (is_at (nat_cmp k)) es ≡ Some v → map.get m k ≡ None
  missing_in_list es m k v apart found = let a = apart_at es m k apart in grind (arith, a, found)

  pub missing_in_tree : (es : List (ℕ × X)) (m : FinMap nat_cmp X) (k : ℕ) → IsApart es m → is_some (map.get m k) ≡ true → lookup (is_at (nat_cmp k)) es ≡ None
  missing_in_tree es m k apart found = let a = apart_at es m k apart in grind (arith, a, found)
