-- What the owner of queues, command buffers and fetched images takes with it.
use Rattle.std.proofs.Common.{◌≡◌, ℕ, zero, suc, ◌==◌, ◌&&◌, Bool, true, false, not, List, [], ◌∷◌, slice_get, length, ◌-◌, Option, Some, None, if◌then◌else◌, refl, ap, sym, ◌∙◌, arith}
use Rattle.std.specs.Prelude.{option_map, option_and_then}
use Rattle.std.specs.Ordering.{nat_cmp}
use Rattle.std.specs.FinMap as map
use Rattle.std.specs.FinMap.{FinMap}
use Rattle.std.proofs.lemmas.Bool.Decides.{nat_tests}
use Rattle.std.proofs.lemmas.Option.{same_Some}
use Rattle.gfx_table.specs.declared.groups.Groups.{Groups}
use Rattle.gfx_table.specs.Dense.{is_listed}
use Rattle.gfx_table.specs.Groups.{is_member}
use Rattle.gfx_table.specs.Values.{kept_rows, get-with_rows}
use Rattle.gfx_table.specs.Rows.{same_rows}
use Rattle.gfx_model.specs.Questions.{is_owned, goes_with, passes}
use Rattle.gfx_objects.specs.declared.object.Object.{Object}
use Rattle.gfx_objects.specs.Object.{made, owner_of, is_owned_by}
use Rattle.gfx_objects.specs.declared.objects.Objects.TheInside.{Inside}
use Rattle.gfx_objects.specs.Children.{is_at, count_of}
use Rattle.gfx_objects.specs.Inside.{kept_of, IsKept}
use Rattle.gfx_objects.specs.Objects.{Kept, answers, owns, AreGrouped}
use Rattle.gfx_objects.proofs.Asked.{owned_answered}
use Rattle.gfx_objects.proofs.Index.{at_remove}
use Rattle.gfx_objects.proofs.Kept.{sound_same}
use Rattle.gfx_objects.proofs.Grouped.{gone_under, take_out, grouped_same}

-- ---- the ids that an object owns

pub last_listed : (ids : List ℕ) (id : ℕ) → slice_get ids (length ids - 1) ≡ Some id → is_listed id ids ≡ true
last_listed ids id at = listed_at ids (length ids - 1) id at
  where
    listed_at : (ids : List ℕ) (place id : ℕ) → slice_get ids place ≡ Some id → is_listed id ids ≡ true
    listed_at [] place id at = cc
    listed_at (x ∷ ids) zero id at = grind (arith, nat_tests, at)
    listed_at (x ∷ ids) (suc place) id at = let rest = listed_at ids place id at in grind (arith, rest)

pub none_listed : (ids : List ℕ) → slice_get ids (length ids - 1) ≡ None → (x : ℕ) → is_listed x ids ≡ false
none_listed [] none x = refl
none_listed (y ∷ ids) none x = absurd (grind (arith, within ids y none))
  where
    within : (ids : List ℕ) (y : ℕ) → slice_get (y ∷ ids) (length (y ∷ ids) - 1) ≡ None → ⊥
    within [] y none = cc
    within (z ∷ ids) y none = within ids z (grind (arith, none))

-- what is owned is live
pub owned_row : (k : Kept) (owner id : ℕ) → passes (λ o. is_owned o.detail && owner == o.parent) ((answers k).live id) ≡ true
    → (o : Object) × (map.get k.rows id ≡ Some o) × (is_owned_by owner o ≡ true)
unfolding answers
owned_row k owner id owned = by (map.get k.rows id) refl owned
  where
    by : (q : Option Object) → map.get k.rows id ≡ q → passes (λ o. is_owned o.detail && owner == o.parent) (option_map made q) ≡ true
        → (o : Object) × (map.get k.rows id ≡ Some o) × (is_owned_by owner o ≡ true)
    by None none owned = absurd cc
    by (Some o) some owned = (o, some, owned)

pub not_owned_row : (k : Kept) (owner id : ℕ) (o : Object) → passes (λ o. is_owned o.detail && owner == o.parent) ((answers k).live id) ≡ false
    → map.get k.rows id ≡ Some o → is_owned_by owner o ≡ false
unfolding answers
not_owned_row k owner id o free some = sym (ap (λ q. passes (λ o. is_owned o.detail && owner == o.parent) (option_map made q)) some) ∙ free

-- what is owned yet is in the set of its owner
pub still_owned : (m : FinMap nat_cmp Object) (owned : ℕ → ℕ → Bool) (id : ℕ) (o : Object) → AreGrouped owner_of m owned → map.get m id ≡ Some o
    → (k : Kept) → k.rows ≡ map.remove m id → (now : ℕ → ℕ → Bool) → ((g x : ℕ) → now g x ≡ (if is_at g (owner_of o) && id == x then false else owned g x))
    → (x y : ℕ) → owns (answers k) x y ≡ true → now x y ≡ true
still_owned m owned id o was some k rows now taken x y is =
    gone_under owner_of m k.rows id owned now was rows (take_out owner_of m k.rows id owned now was o some taken) x y ∙ owned_answered k x y ∙ is

-- what doesn't own an object is not its owner
pub not_owner : (k : Kept) (id : ℕ) (o : Object) → map.get k.rows id ≡ Some o → (x : ℕ) → owns (answers k) x id ≡ false → is_at x (owner_of o) ≡ false
not_owner k id o some x free = sym (ap (λ q. is_at x (option_and_then owner_of q)) some) ∙ owned_answered k x id ∙ free

-- ---- all that ends with an object

-- some rows that the owner owns are gone
pub record IsLeft (owner : ℕ) (first now : FinMap nat_cmp Object) : Type 0 where
  pub same : (x : ℕ) (o : Object) → map.get now x ≡ Some o → map.get first x ≡ Some o
  pub free : (x : ℕ) (o : Object) → map.get first x ≡ Some o → is_owned_by owner o ≡ false → map.get now x ≡ Some o

pub one_gone : (owner id : ℕ) (first now next : FinMap nat_cmp Object) (o : Object) → map.get now id ≡ Some o → is_owned_by owner o ≡ true
    → next ≡ map.remove now id → IsLeft owner first now → IsLeft owner first next
one_gone owner id first now next o some owned gone left = record {
  same = λ x r there. let a = at x in left.same x r (grind (arith, nat_tests, a, there));
  free = λ x r there free.
      let a = at x in
      let still = left.free x r there free in
      let here : id ≡ x → map.get now id ≡ map.get now x = λ p. rw p refl in
      let other : map.get now id ≡ Some r → is_owned_by owner o ≡ is_owned_by owner r = λ q. ap (is_owned_by owner) (same_Some _ _ (sym some ∙ q)) in
      grind (arith, nat_tests, a, still, here, other, owned, free);
}
  where
    at : (x : ℕ) → map.get next x ≡ (if id == x then None else map.get now x)
    at x = ap (λ m. map.get m x) gone ∙ at_remove now id x

pub all_ended : (id : ℕ) (first now n : FinMap nat_cmp Object) → IsLeft id first now → ((x : ℕ) (o : Object) → map.get now x ≡ Some o → is_owned_by id o ≡ false)
    → n ≡ map.remove now id → n ≡ kept_rows (λ x o. not (goes_with id x (made o))) first
all_ended id first now n left free itself =
    same_rows _ _ (λ x. cases x (map.get first x) (map.get now x) refl refl ∙ sym (get-with_rows (λ x o. if not (goes_with id x (made o)) then Some o else None) first x))
  where
    gone : (x : ℕ) → map.get n x ≡ (if id == x then None else map.get now x)
    gone x = ap (λ m. map.get m x) itself ∙ at_remove now id x

    cases : (x : ℕ) (p q : Option Object) → map.get first x ≡ p → map.get now x ≡ q → map.get n x ≡ option_and_then (λ o. if not (goes_with id x (made o)) then Some o else None) p
    cases x None None first_is now_is = let g = gone x in grind (arith, nat_tests, g, now_is)
    cases x None (Some r) first_is now_is = let was = left.same x r now_is in absurd (grind (arith, was, first_is))
    cases x (Some o) None first_is now_is =
        let g = gone x in
        let stays = left.free x o first_is in
        grind (arith, nat_tests, g, now_is, stays)
    cases x (Some o) (Some r) first_is now_is =
        let g = gone x in
        let was : r ≡ o = same_Some _ _ (sym (left.same x r now_is) ∙ first_is) in
        let here : map.get now x ≡ Some o = now_is ∙ ap Some was in
        let not_owned = free x o here in
        grind (arith, nat_tests, g, here, not_owned)

-- what an owner of others owned is its own at first too
pub owned_first : (id x y : ℕ) (first now : Kept) → IsLeft id first.rows now.rows → owns (answers first) x y ≡ false → owns (answers now) x y ≡ false
unfolding answers
owned_first id x y first now left free = by (map.get now.rows y) refl
  where
    by : (q : Option Object) → map.get now.rows y ≡ q → passes (λ o. is_owned o.detail && x == o.parent) (option_map made q) ≡ false
    by None none = refl
    by (Some o) some = sym (ap (λ q. passes (λ o. is_owned o.detail && x == o.parent) (option_map made q)) (left.same y o some)) ∙ free

-- what one object owns no other does
pub owned_once : (k : Kept) (id x child : ℕ) → (id == x) ≡ false → (o : Object) → map.get k.rows child ≡ Some o → is_owned_by id o ≡ true → owns (answers k) x child ≡ false
unfolding answers
owned_once k id x child apart o some owned =
    ap (λ q. passes (λ o. is_owned o.detail && x == o.parent) (option_map made q)) some ∙ grind (arith, nat_tests, apart, owned)

-- once all that an object owned is gone it owns nothing
pub owns_nothing : (now k : Kept) (id y : ℕ) → k.rows ≡ map.remove now.rows id → owns (answers now) id y ≡ false → owns (answers k) id y ≡ false
unfolding answers
owns_nothing now k id y rows free =
    ap (λ m. passes (λ o. is_owned o.detail && id == o.parent) (option_map made (map.get m y))) rows
    ∙ ap (λ q. passes (λ o. is_owned o.detail && id == o.parent) (option_map made q)) (at_remove now.rows id y) ∙ cases (id == y)
  where
    cases : (t : Bool) → passes (λ o. is_owned o.detail && id == o.parent) (option_map made (if t then None else map.get now.rows y)) ≡ false
    cases true = refl
    cases false = free

-- all that is kept stays so where what is owned is in other tables with the same members
pub owned_anew : (s : Inside) (owned : Groups) → is_member owned.sets.map ≡ is_member s.owned.sets.map → IsKept s → IsKept (record s { owned = owned })
unfolding answers
owned_anew s owned same kept = record {
  sound = sound_same (kept_of s) (kept_of (record s { owned = owned })) refl refl kept.sound;
  indexed = kept.indexed;
  grouped = grouped_same s.rows.map s.rows.map (is_member s.owned.sets.map) (is_member owned.sets.map) (is_member s.resting.sets.map) (is_member s.resting.sets.map)
      (count_of s.swapchains.counts.map) (count_of s.swapchains.counts.map) refl same refl refl kept.grouped;
  has_room = record { rows = kept.has_room.rows; ended = kept.has_room.ended; children = kept.has_room.children; swapchains = kept.has_room.swapchains };
  noted = kept.noted;
}
