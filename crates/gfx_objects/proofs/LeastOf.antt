-- The least id of a list above a given one is that of the rows whose ids are listed.
use Rattle.std.proofs.Common.{◌≡◌, ℕ, ◌<◌, ◌≤◌, ◌==◌, ◌&&◌, ◌||◌, Bool, true, false, if◌then◌else◌, List, [], ◌∷◌, min, nat_lt, Option, Some, None, is_some, refl, ap, sym, ◌∙◌, arith}
use Rattle.std.specs.Prelude.{fold}
use Rattle.std.specs.Option.{option_map_or}
use Rattle.std.specs.Ordering.{nat_cmp}
use Rattle.std.specs.FinMap as map
use Rattle.std.specs.FinMap.{FinMap}
use Rattle.std.proofs.lemmas.Bool.{both_ways, eqb-true}
use Rattle.std.proofs.lemmas.Bool.Decides.{nat_tests}
use Rattle.std.proofs.lemmas.Option.{same_Some}
use Rattle.gfx_table.specs.Dense.{is_listed}
use Rattle.gfx_table.specs.Slots.{least_above}
use Rattle.gfx_table.specs.Values.{get-with_rows}
use Rattle.gfx_table.specs.Rows.{least_above-higher}
use Rattle.gfx_model.specs.Questions.{is_owned, passes}
use Rattle.gfx_objects.specs.Objects.{Kept, answers, owner_mark, of_owner}
use Rattle.gfx_objects.specs.Least.{lesser_of, least_with}
use Rattle.gfx_objects.proofs.Asked.{owner_answered}
use Rattle.gfx_objects.proofs.Rising.{least_kept, least_first, least_none}

-- ---- the least of a list

module _ (after : ℕ) where
  abbrev least_from : Option ℕ → List ℕ → Option ℕ
  least_from found xs = fold (least_with after) found xs

  looked : (found : Option ℕ) (x : ℕ) (xs : List ℕ) (r : Option ℕ) (t : Bool) → nat_lt after x ≡ t → least_from found (x ∷ xs) ≡ r → least_from (if t then Some (lesser_of found x) else found) xs ≡ r
  looked found x xs r t is e = sym (ap (λ t. least_from (if t then Some (lesser_of found x) else found) xs) is) ∙ e

  -- what was found stays found
  stays : (xs : List ℕ) (a : ℕ) → least_from (Some a) xs ≡ None → ⊥
  stays [] a none = cc
  stays (x ∷ xs) a none = by (nat_lt after x) refl (stays xs)
    where
      by : (t : Bool) → nat_lt after x ≡ t → ((a : ℕ) → least_from (Some a) xs ≡ None → ⊥) → ⊥
      by true is rest = rest (min a x) (looked (Some a) x xs None true is none)
      by false is rest = rest a (looked (Some a) x xs None false is none)

  -- where none is found, none is above
  none_listed : (xs : List ℕ) (x : ℕ) → least_from None xs ≡ None → after < x → is_listed x xs ≡ false
  none_listed [] x none above = refl
  none_listed (y ∷ ys) x none above = by (nat_lt after y) refl (λ e. none_listed ys x e above)
    where
      by : (t : Bool) → nat_lt after y ≡ t → (least_from None ys ≡ None → is_listed x ys ≡ false) → is_listed x (y ∷ ys) ≡ false
      by true is rest = absurd (stays ys y (looked None y ys None true is none))
      by false is rest =
          let behind = rest (looked None y ys None false is none) in
          grind (arith, nat_tests, is, behind, above)

  -- what is found at the end is no more than what was found before
  below_found : (xs : List ℕ) (a id : ℕ) → least_from (Some a) xs ≡ Some id → id ≤ a
  below_found [] a id is = let same = same_Some a id is in omega (arith, same)
  below_found (y ∷ ys) a id is = by (nat_lt after y) refl (below_found ys)
    where
      by : (t : Bool) → nat_lt after y ≡ t → ((a id : ℕ) → least_from (Some a) ys ≡ Some id → id ≤ a) → id ≤ a
      by true e rest = let less = rest (min a y) id (looked (Some a) y ys (Some id) true e is) in omega (arith, less)
      by false e rest = rest a id (looked (Some a) y ys (Some id) false e is)

  -- nor than the id at the start
  below_front : (ys : List ℕ) (y : ℕ) (found : Option ℕ) (id : ℕ) → least_from found (y ∷ ys) ≡ Some id → nat_lt after y ≡ true → id ≤ y
  below_front ys y None id is above = below_found ys y id (looked None y ys (Some id) true above is)
  below_front ys y (Some a) id is above = let less = below_found ys (min a y) id (looked (Some a) y ys (Some id) true above is) in omega (arith, less)

  -- nor than any that is listed
  below_listed : (xs : List ℕ) (found : Option ℕ) (id x : ℕ) → least_from found xs ≡ Some id → nat_lt after x ≡ true → is_listed x xs ≡ true → id ≤ x
  below_listed [] found id x is above listed = cc
  below_listed (y ∷ ys) found id x is above listed = by (y == x) refl (below_listed ys (least_with after found y) id x is above)
    where
      by : (t : Bool) → (y == x) ≡ t → (is_listed x ys ≡ true → id ≤ x) → id ≤ x
      by true e rest =
          let same : y ≡ x = eqb-true y x e in
          let less = below_front ys y found id is (ap (nat_lt after) same ∙ above) in
          omega (arith, less, same)
      by false e rest = rest (sym (ap (λ t. t || is_listed x ys) e) ∙ listed)

  -- what is found was listed and is above, or was found before
  comes : (xs : List ℕ) (found : Option ℕ) (id : ℕ) → least_from found xs ≡ Some id → (option_map_or (λ a. a == id) found false || (nat_lt after id && is_listed id xs)) ≡ true
  comes [] found id is = ap (λ f. option_map_or (λ a. a == id) f false || (nat_lt after id && false)) is ∙ (let e : ((id == id) || (nat_lt after id && false)) ≡ true = grind (arith, nat_tests) in e)
  comes (y ∷ ys) found id is = let rest = comes ys (least_with after found y) id is in by found (nat_lt after y) refl rest
    where
      by : (f : Option ℕ) (t : Bool) → nat_lt after y ≡ t → (option_map_or (λ a. a == id) (if nat_lt after y then Some (lesser_of f y) else f) false || (nat_lt after id && is_listed id ys)) ≡ true
          → (option_map_or (λ a. a == id) f false || (nat_lt after id && is_listed id (y ∷ ys))) ≡ true
      by None true e rest = grind (arith, nat_tests, e, rest)
      by None false e rest = grind (arith, nat_tests, e, rest)
      by (Some a) true e rest = grind (arith, nat_tests, e, rest)
      by (Some a) false e rest = grind (arith, nat_tests, e, rest)

-- ---- the least of a map

module _ {X : Type 0} (m : FinMap nat_cmp X) (after : ℕ) (xs : List ℕ) (all : (x : ℕ) → is_some (map.get m x) ≡ is_listed x xs) where
  unlisted : (x : ℕ) → map.get m x ≡ None → is_listed x xs ≡ false
  unlisted x none = sym (all x) ∙ ap is_some none

  pub is_least : fold (least_with after) None xs ≡ least_above m after
  is_least = by (fold (least_with after) None xs) (least_above m after) refl refl
    where
      by : (p q : Option ℕ) → fold (least_with after) None xs ≡ p → least_above m after ≡ q → p ≡ q
      by None None is least = refl
      by None (Some b) is least =
          absurd (both_ways (is_listed b xs) (none_listed after xs b is (least_above-higher m after b least)) (sym (all b) ∙ least_kept m after b least))
      by (Some a) None is least =
          let there = comes after xs None a is in
          let listed : is_listed a xs ≡ true = grind (arith, there) in
          let above : after < a = grind (arith, nat_tests, there) in
          absurd (both_ways (is_listed a xs) (unlisted a (least_none m after least a above)) listed)
      by (Some a) (Some b) is least =
          let there = comes after xs None a is in
          let listed : is_listed a xs ≡ true = grind (arith, there) in
          let above : after < a = grind (arith, nat_tests, there) in
          let higher = least_above-higher m after b least in
          let higher_too : nat_lt after b ≡ true = grind (arith, nat_tests, higher) in
          let le = below_listed after xs None a b is higher_too (sym (all b) ∙ least_kept m after b least) in
          let between = λ (l : a < b). both_ways (is_listed a xs) (unlisted a (least_first m after b least a above l)) listed in
          ap Some (same a b le between)
        where
          same : (a b : ℕ) → a ≤ b → (a < b → ⊥) → a ≡ b
          same a b le between = grind (arith, nat_tests, le, between)

-- the least of what an object owns
pub next_is : (k : Kept) (owner after : ℕ) (xs : List ℕ) → ((x : ℕ) → is_listed x xs ≡ passes (λ o. is_owned o.detail && owner == o.parent) ((answers k).live x))
    → fold (least_with after) None xs ≡ least_above (of_owner owner k.rows) after
next_is k owner after xs all =
    is_least (of_owner owner k.rows) after xs (λ x. ap is_some (get-with_rows (owner_mark owner) k.rows x) ∙ owner_answered k owner x ∙ sym (all x))
