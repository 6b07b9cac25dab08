-- The numbers that a line has for its names.
use Rattle.std.proofs.Common.{◌≡◌, ℕ, ◌+◌, ◌≤◌, ◌==◌, Bool, true, false, not, cond, List, [], ◌∷◌, ◌++◌, map, length, Option, Some, None, is_some, unwrap_or, sym, refl, ap, ◌∙◌, subst, arith, length-append}
use Rattle.std.specs.Prelude.{◌&&◌}
use Rattle.std.specs.List.{AllByRecursion, list_all, position_from}
use Rattle.std.proofs.lemmas.Bool.{both_ways, and_parts, and_from, or_parts, eqb-true, cond-true, cond-false}
use Rattle.gfx_model.specs.Checks.{same_list}
use Rattle.gfx_script_model.specs.FieldText.{IdFits}
use Rattle.gfx_script_model.specs.Names.{name_of, named_ids, is_code}
use Rattle.gfx_script_model.specs.Scripts.{Defined, number_of, may_use, is_known, without_0, define, renumber}
use Rattle.gfx_script.specs.Numbered.{is_taken, clashes}
use Rattle.gfx_script.proofs.NamePlaces.{first_of, number-within, number-push, number-stays, same_list-same, clash-step, define-step}
use Rattle.gfx_script_law.specs.Playable.{numbers_from}
use Rattle.gfx_script_law.proofs.Agree.{AllBelow}

-- what passes a test that holds more often has a place
place-weaker : {X : Type 0} (p q : X → Bool) → ((x : X) → p x ≡ true → q x ≡ true) → (n : ℕ) (xs : List X) → is_some (position_from p n xs) ≡ true → is_some (position_from q n xs) ≡ true
place-weaker p q weaker n [] h = h
place-weaker p q weaker n (x ∷ xs) h = by (p x) refl (q x) refl h (place-weaker p q weaker (n + 1) xs)
  where
    by : (a : Bool) → p x ≡ a → (b : Bool) → q x ≡ b → is_some (cond a (Some n) (position_from p (n + 1) xs)) ≡ true
        → (is_some (position_from p (n + 1) xs) ≡ true → is_some (position_from q (n + 1) xs) ≡ true) → is_some (cond b (Some n) (position_from q (n + 1) xs)) ≡ true
    by a pa true qb h later = refl
    by true pa false qb h later = absurd (both_ways (q x) qb (weaker x pa))
    by false pa false qb h later = later h

some-is : (o : Option ℕ) → is_some o ≡ true → (n : ℕ) × (o ≡ Some n)
some-is (Some n) h = (n, refl)
some-is None h = absurd (both_ways false refl h)

module _ (phase thread : ℕ) (names : List Defined) where
  -- a name that may be used has a number among the names before
  used-number : (texts : List (List ℕ)) (k : ℕ) → (k == 0) ≡ false → is_known names (may_use phase thread) (name_of k) ≡ true
      → renumber (define phase thread names texts) k ≤ length names
  used-number texts k some known =
      let weaker = place-weaker (λ d. same_list d.name (name_of k) && may_use phase thread d) (λ d. same_list d.name (name_of k) && true)
      (λ d h. and_from (same_list d.name (name_of k)) true (and_parts (same_list d.name (name_of k)) (may_use phase thread d) h).0 refl) 1 names known in
      let found = some-is (number_of (λ d. true) names (name_of k)) weaker in
      let stays = number-stays names (map (λ t. record { name = t; phase = phase; thread = thread }) texts) (name_of k) found.0 found.1 in
      let is : renumber (define phase thread names texts) k ≡ found.0 = cond-false (k == 0) 0 (unwrap_or (number_of (λ d. true) (define phase thread names texts) (name_of k)) 0) some ∙ ap (λ (o : Option ℕ). unwrap_or o 0) stays in
      let within = number-within (λ d. true) names (name_of k) found.0 found.1 in subst (λ n. n ≤ length names) (sym is) within.1

  pub uses-below : (texts : List (List ℕ)) (ks : List ℕ) → list_all (is_known names (may_use phase thread)) (map name_of (without_0 ks)) ≡ true
      → AllBelow (1 + length names) (map (renumber (define phase thread names texts)) ks)
  uses-below texts [] h = tt
  uses-below texts (k ∷ ks) h = by (k == 0) refl h (uses-below texts ks)
    where
      by : (b : Bool) → (k == 0) ≡ b → list_all (is_known names (may_use phase thread)) (map name_of (cond (not b) (k ∷ without_0 ks) (without_0 ks))) ≡ true
          → (list_all (is_known names (may_use phase thread)) (map name_of (without_0 ks)) ≡ true → AllBelow (1 + length names) (map (renumber (define phase thread names texts)) ks))
          → AllBelow (1 + length names) (map (renumber (define phase thread names texts)) (k ∷ ks))
      by true is h later =
          let none : renumber (define phase thread names texts) k ≡ 0 = cond-true (k == 0) 0 (unwrap_or (number_of (λ d. true) (define phase thread names texts) (name_of k)) 0) is in
          (omega arith, later h)
      by false is h later =
          let parts = and_parts (is_known names (may_use phase thread) (name_of k)) (list_all (is_known names (may_use phase thread)) (map name_of (without_0 ks))) h in
          let less = used-number texts k is parts.0 in (omega arith, later parts.1)

-- the code of a name is not 0
code-some : (k : ℕ) → is_code k ≡ true → (k == 0) ≡ false
code-some k h = by (k == 0) refl
  where
    zero-no : is_code 0 ≡ false
    zero-no = refl

    by : (b : Bool) → (k == 0) ≡ b → (k == 0) ≡ false
    by true is = absurd (both_ways (is_code k) (ap is_code (eqb-true k 0 is) ∙ zero-no) h)
    by false is = is

-- new names have the next numbers
pub new-numbers : (phase thread : ℕ) (names : List Defined) (ks : List ℕ) → AllByRecursion (IdFits named_ids) ks → clashes names (map name_of ks) ≡ false
    → map (renumber (define phase thread names (map name_of ks))) ks ≡ numbers_from (1 + length names) (length ks)
new-numbers phase thread names [] fits new = refl
new-numbers phase thread names (k ∷ ks) fits new =
    let t = name_of k in
    let d : Defined = record { name = t; phase = phase; thread = thread } in
    let parts = or_parts (is_taken names t) (clashes (names ++ d ∷ []) (map name_of ks)) (sym (clash-step names d (map name_of ks)) ∙ new) in
    let all = define phase thread names (t ∷ map name_of ks) in
    let later : define phase thread (names ++ d ∷ []) (map name_of ks) ≡ all = sym (define-step phase thread names t (map name_of ks)) in
    let fresh : number_of (λ d. true) (names ++ d ∷ []) t ≡ Some (length names + 1) =
    number-push (λ d. true) names d t ∙ first (number_of (λ d. true) names t) parts.0 (same_list d.name t) (same_list-same t) in
    let stays : number_of (λ d. true) all t ≡ Some (length names + 1) =
    ap (λ (z : List Defined). number_of (λ d. true) z t) (sym later) ∙ number-stays (names ++ d ∷ []) (map (λ t. record { name = t; phase = phase; thread = thread }) (map name_of ks)) t (length names + 1) fresh in
    let here : renumber all k ≡ 1 + length names =
    cond-false (k == 0) 0 (unwrap_or (number_of (λ d. true) all t) 0) (code-some k fits.0) ∙ (ap (λ (o : Option ℕ). unwrap_or o 0) stays ∙ (let e : length names + 1 ≡ 1 + length names = omega arith in e)) in
    let more : 1 + length (names ++ d ∷ []) ≡ 1 + length names + 1 = (let a = length-append names (d ∷ []) in omega arith) in
    let rest = new-numbers phase thread (names ++ d ∷ []) ks fits.1 parts.1 in
    λ i. here i ∷ (ap (λ z. map (renumber z) ks) (sym later) ∙ (rest ∙ ap (λ n. numbers_from n (length ks)) more)) i
  where
    first : (o : Option ℕ) → is_some o ≡ false → (b : Bool) → b ≡ true → first_of o (cond (b && true) (Some (length names + 1)) None) ≡ Some (length names + 1)
    first (Some n) taken b same = absurd (both_ways true taken refl)
    first None taken true same = refl
    first None taken false same = absurd (both_ways false refl same)
