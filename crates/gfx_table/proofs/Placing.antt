-- The places of the ids of a list.
use Rattle.std.proofs.Common.{◌≡◌, ℕ, zero, suc, ◌<◌, ◌≤◌, ◌+◌, ◌-◌, ◌==◌, Bool, true, false, is_some, cond, List, [], ◌∷◌, ◌++◌, length, take, drop, drop-cons, get_or, slice_get, Option, Some, None, refl, sym, ap, subst, ◌∙◌, arith, slice_set, length-set}
use Rattle.std.specs.List.{swap_remove, slice_index_or}
use Rattle.std.specs.Ordering.{nat_cmp}
use Rattle.std.specs.Cmp.{nat_cmp_total}
use Rattle.std.proofs.lemmas.Bool.Decides.{nat_tests}
use Rattle.std.proofs.lemmas.Option.{same_Some}
use Rattle.std.specs.FinMap as map
use Rattle.std.specs.FinMap.{FinMap, get-insert, get-empty}
use Rattle.gfx_table.specs.Dense.{is_listed, StandApart, settled, IsDense}
use Rattle.gfx_table.specs.IdList.{places_from, places_in, IsPlaced}
use Rattle.gfx_table.proofs.Joining.{same_keys}
use Rattle.std.proofs.lemmas.Option.{slice_get-get_or, slice_get_read}
use Rattle.std.proofs.lemmas.List.{take_more}
use Rattle.std.proofs.lemmas.List.{length-take}
use Rattle.gfx_table.proofs.Densing.{listed_at, unlisted, get_take, moved, push_row, remove_row, IsMoved}

-- what has a place is there
found_from : (n : ℕ) (ids : List ℕ) (q p : ℕ) → map.get (places_from n ids) q ≡ Some p → (n ≤ p) × (slice_get ids (p - n) ≡ Some q)
unfolding places_from
found_from n [] q p is = let none = get-empty {X = ℕ} nat_cmp q in absurd (grind (arith, none, is))
found_from n (x ∷ ids) q p is = by (q == x) refl (found_from (suc n) ids q p)
  where
    by : (t : Bool) → (q == x) ≡ t → (map.get (places_from (suc n) ids) q ≡ Some p → (suc n ≤ p) × (slice_get ids (p - suc n) ≡ Some q))
        → (n ≤ p) × (slice_get (x ∷ ids) (p - n) ≡ Some q)
    by true same rest =
        let put = get-insert nat_cmp_total (places_from (suc n) ids) x n q in
        let here : n ≡ p = grind (arith, nat_tests, same, put, is) in
        let zeroth : p - n ≡ 0 = omega (arith, here) in
        (omega (arith, here), ap (slice_get (x ∷ ids)) zeroth ∙ grind (arith, nat_tests, same))
    by false same rest =
        let put = get-insert nat_cmp_total (places_from (suc n) ids) x n q in
        let behind = rest (grind (arith, nat_tests, same, put, is)) in
        let far = behind.0 in
        let next : p - n ≡ suc (p - suc n) = omega (arith, far) in
        (omega (arith, far), ap (slice_get (x ∷ ids)) next ∙ behind.1)

-- what occurs once in the list has its place
placed_from : (n : ℕ) (ids : List ℕ) → StandApart ids → (q k : ℕ) → slice_get ids k ≡ Some q → map.get (places_from n ids) q ≡ Some (n + k)
unfolding places_from
placed_from n [] apart q k at = absurd (grind (arith, at))
placed_from n (x ∷ ids) apart q zero at =
    let put = get-insert nat_cmp_total (places_from (suc n) ids) x n q in
    let same : n + 0 ≡ n = omega arith in
    grind (arith, nat_tests, put, at, same)
placed_from n (x ∷ ids) apart q (suc k) at =
    let put = get-insert nat_cmp_total (places_from (suc n) ids) x n q in
    let rest = placed_from (suc n) ids (λ i j id at_i at_j. let same = apart (suc i) (suc j) id at_i at_j in omega (arith, same)) q k at in
    let other : q ≡ x → zero ≡ suc k = λ s. apart zero (suc k) q (ap Some (sym s)) at in
    let next : n + suc k ≡ suc n + k = omega arith in
    grind (arith, nat_tests, put, rest, other, next)

place_in : (ids : List ℕ) (q p : ℕ) → map.get (places_in ids) q ≡ Some p → slice_get ids p ≡ Some q
place_in ids q p is = let same : p ≡ p - 0 = omega arith in ap (slice_get ids) same ∙ (found_from 0 ids q p is).1

its_place : (ids : List ℕ) → StandApart ids → (q p : ℕ) → slice_get ids p ≡ Some q → map.get (places_in ids) q ≡ Some p
its_place ids apart q p at = let same : 0 + p ≡ p = omega arith in placed_from 0 ids apart q p at ∙ ap Some same

pub dense_in : (ids : List ℕ) (count : ℕ) → StandApart ids → length ids ≡ count → IsDense ids count (places_in ids)
dense_in ids count apart many = record {
  found = place_in ids;
  placed = its_place ids apart;
  each = many;
}

pub apart_in : (ids : List ℕ) (count : ℕ) (places : FinMap nat_cmp ℕ) → IsDense ids count places → StandApart ids
apart_in ids count places dense i j id at_i at_j = same_Some _ _ (sym (dense.placed id i at_i) ∙ dense.placed id j at_j)

-- there is one way to place the ids of a list
pub one_way : (ids : List ℕ) (count : ℕ) (places : FinMap nat_cmp ℕ) → IsDense ids count places → places ≡ places_in ids
one_way ids count places dense = same_keys _ _ (λ q. by q (map.get places q) refl (map.get (places_in ids) q) refl)
  where
    its : IsDense ids (length ids) (places_in ids)
    its = dense_in ids (length ids) (apart_in ids count places dense) refl

    by : (q : ℕ) (o : Option ℕ) → map.get places q ≡ o → (r : Option ℕ) → map.get (places_in ids) q ≡ r → map.get places q ≡ map.get (places_in ids) q
    by q (Some p) is r at = let there = its.placed q p (dense.found q p is) in is ∙ sym there
    by q None is (Some p) at = let there = dense.placed q p (its.found q p at) in absurd (grind (arith, is, there))
    by q None is None at = is ∙ sym at

pub placed_anew : (ids : List ℕ) (count : ℕ) (places : FinMap nat_cmp ℕ) → IsDense ids count places → IsDense ids count (places_in ids)
placed_anew ids count places dense = subst (IsDense ids count) (one_way ids count places dense) dense

pub none_placed : (ids : List ℕ) → ids ≡ [] → places_in ids ≡ map.empty
unfolding places_from
none_placed ids is = ap places_in is

-- an id that isn't listed has no place
pub no_place : (ids : List ℕ) (id : ℕ) → is_listed id ids ≡ false → map.get (places_in ids) id ≡ None
no_place ids id none = by (map.get (places_in ids) id) refl
  where
    by : (o : Option ℕ) → map.get (places_in ids) id ≡ o → map.get (places_in ids) id ≡ None
    by None is = is
    by (Some p) is = let there = listed_at ids p id (place_in ids id p is) in absurd (grind (arith, none, there))

pub not_listed : (ids : List ℕ) (id : ℕ) → StandApart ids → map.get (places_in ids) id ≡ None → is_listed id ids ≡ false
not_listed ids id apart none = unlisted ids id (λ p at. let there = its_place ids apart id p at in absurd (grind (arith, none, there))) (is_listed id ids) refl

-- a new id at the end
pub pushed : (ids : List ℕ) (id : ℕ) → StandApart ids → is_listed id ids ≡ false → IsDense (ids ++ id ∷ []) (length (ids ++ id ∷ [])) (map.insert (places_in ids) id (length ids))
pushed ids id apart none = (push_row ids ids (places_in ids) (dense_in ids (length ids) apart refl) id id (no_place ids id none)).0

-- the id at a place goes, and the last one is there
pub removed : (ids ids2 : List ℕ) (id p : ℕ) → StandApart ids → slice_get ids p ≡ Some id → IsMoved ids p ids2
    → IsDense ids2 (length ids2) (settled (map.remove (places_in ids) id) (slice_get ids2 p) p)
removed ids ids2 id p apart at move =
    let dense = dense_in ids (length ids) apart refl in
    (remove_row ids ids2 ids ids2 (places_in ids) dense id p (dense.placed id p at) move move (slice_get ids2 p) refl).0

-- what has a place is listed
pub listed_placed : (ids : List ℕ) (q : ℕ) → is_some (map.get (places_in ids) q) ≡ true → is_listed q ids ≡ true
listed_placed ids q some = by (map.get (places_in ids) q) refl some
  where
    by : (o : Option ℕ) → map.get (places_in ids) q ≡ o → is_some o ≡ true → is_listed q ids ≡ true
    by None is none = absurd (cc)
    by (Some p) is there = listed_at ids p q (place_in ids q p is)

-- ---- one id after another

pub next_of : (ids : List ℕ) (i d : ℕ) → i < length ids → drop i ids ≡ get_or ids i d ∷ drop (i + 1) ids
next_of ids i d lt = let one : suc i ≡ i + 1 = omega arith in drop-cons ids i d lt ∙ ap (λ n. get_or ids i d ∷ drop n ids) one

in_take : (ids : List ℕ) (n i id : ℕ) → slice_get (take n ids) i ≡ Some id → (i < n) × (slice_get ids i ≡ Some id)
in_take ids n i id at = let a = get_take ids n i in (grind (arith, nat_tests, a, at), grind (arith, nat_tests, a, at))

pub apart_take : (ids : List ℕ) (n : ℕ) → StandApart ids → StandApart (take n ids)
apart_take ids n apart i j id at_i at_j = apart i j id (in_take ids n i id at_i).1 (in_take ids n j id at_j).1

-- the next id isn't listed so far
pub not_before : (ids : List ℕ) (i d : ℕ) → StandApart ids → i < length ids → is_listed (get_or ids i d) (take i ids) ≡ false
not_before ids i d apart lt =
    let x = get_or ids i d in
    let here = slice_get-get_or ids i d lt in
    unlisted (take i ids) x (λ p at. let its = in_take ids i p x at in let same = apart p i x its.1 here in let low = its.0 in absurd (omega (arith, same, low))) (is_listed x (take i ids)) refl

-- the next id is placed behind those so far
pub more_placed : (ids : List ℕ) (i d : ℕ) → StandApart ids → i < length ids → map.insert (places_in (take i ids)) (get_or ids i d) i ≡ places_in (take (i + 1) ids)
more_placed ids i d apart lt =
    let x = get_or ids i d in
    let none = not_before ids i d apart lt in
    let many : length (take i ids) ≡ i = let a = length-take i ids in omega (arith, a, lt) in
    let put = pushed (take i ids) x (apart_take ids i apart) none in
    ap (map.insert (places_in (take i ids)) x) (sym many) ∙ one_way _ _ _ put ∙ ap places_in (sym (take_more ids i d lt))

pub one_less : (ids : List ℕ) (p id : ℕ) → p < length ids → length (swap_remove ids p id) + 1 ≡ length ids
one_less ids p id lt =
    let a = length-take (length ids - 1) (slice_set ids p (slice_index_or ids (length ids - 1) id)) in
    let b = length-set ids p (slice_index_or ids (length ids - 1) id) in
    omega (arith, a, b, lt)

-- ---- a list that keeps places, or keeps none

pub placed_none : (ids : List ℕ) (t : Bool) (places : FinMap nat_cmp ℕ) → ids ≡ [] → places ≡ map.empty → IsPlaced ids t places
placed_none ids t places none empty = record {
  apart = λ i j id at_i at_j. let no = ap (λ l. slice_get l i) none in absurd (grind (arith, no, at_i));
  kept = by t;
}
  where
    by : (t : Bool) → places ≡ cond t (places_in ids) map.empty
    by true = empty ∙ sym (none_placed ids none)
    by false = empty

pub placed_push : (ids : List ℕ) (id : ℕ) (t : Bool) (places now : FinMap nat_cmp ℕ) → IsPlaced ids t places → is_listed id ids ≡ false
    → now ≡ cond t (map.insert places id (length ids)) places → IsPlaced (ids ++ id ∷ []) t now
placed_push ids id true places now is none put = record {
  apart = apart_in _ _ _ (pushed ids id is.apart none);
  kept = put ∙ ap (λ m. map.insert m id (length ids)) is.kept ∙ one_way _ _ _ (pushed ids id is.apart none);
}
placed_push ids id false places now is none put = record { apart = apart_in _ _ _ (pushed ids id is.apart none); kept = put ∙ is.kept }

placed_removed : (ids ids2 : List ℕ) (id p : ℕ) (t : Bool) (places now : FinMap nat_cmp ℕ) → IsPlaced ids t places → slice_get ids p ≡ Some id → IsMoved ids p ids2
    → now ≡ cond t (settled (map.remove places id) (slice_get ids2 p) p) places → IsPlaced ids2 t now
placed_removed ids ids2 id p true places now is at move gone = record {
  apart = apart_in _ _ _ (removed ids ids2 id p is.apart at move);
  kept = gone ∙ ap (λ m. settled (map.remove m id) (slice_get ids2 p) p) is.kept ∙ one_way _ _ _ (removed ids ids2 id p is.apart at move);
}
placed_removed ids ids2 id p false places now is at move gone = record { apart = apart_in _ _ _ (removed ids ids2 id p is.apart at move); kept = gone ∙ is.kept }

-- the id at a place goes, as a list's swap_remove takes it
pub placed_taken : (ids ids2 : List ℕ) (id p : ℕ) (t : Bool) (places now : FinMap nat_cmp ℕ) → IsPlaced ids t places → p < length ids → id ≡ slice_index_or ids p id → ids2 ≡ swap_remove ids p id
    → now ≡ cond t (settled (map.remove places id) (slice_get ids2 p) p) places → IsPlaced ids2 t now
placed_taken ids ids2 id p t places now is lt value items gone =
    placed_removed ids ids2 id p t places now is (slice_get_read ids (length ids) p id refl lt value) (moved ids ids2 p id lt (ap (λ l. length l + 1) items ∙ one_less ids p id lt) items) gone

-- where an id stands, once it was sought among all
pub sought : (ids : List ℕ) (id : ℕ) (o : Option ℕ) → StandApart ids → ((p : ℕ) → o ≡ Some p → slice_get ids p ≡ Some id) → (o ≡ None → is_listed id ids ≡ false)
    → o ≡ map.get (places_in ids) id
sought ids id (Some p) apart some none = sym (its_place ids apart id p (some p refl))
sought ids id None apart some none = sym (no_place ids id (none refl))
