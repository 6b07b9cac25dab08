-- A check for new ids has the fault that an id is taken only where one of them was used, if no id occurs twice.
use Rattle.std.proofs.Common.{◌≡◌, ℕ, Bool, true, false, refl, ◌∙◌, ap, List, [], ◌∷◌, Option, Some, None, not, ◌==◌, ◌&&◌, ◌⊎◌, inl, inr}
use Rattle.std.specs.List.{AllByRecursion}
use Rattle.std.proofs.lemmas.Bool.{eqb-true, eq-eqb, both_ways, not-true, and_parts, or_left, or_right, or_from, false_from_ne_true}
use Rattle.gfx_types.specs.declared.names.Fault.{Fault}
use Rattle.gfx_types.specs.declared.names.Fault.TheVariants.{IdTaken, BadValue, ResultDiffers, LimitReached}
use Rattle.gfx_model.specs.Views.{View, queue_of, images_in, fetched}
use Rattle.gfx_model.specs.Checks.{Check, broken, first, unless, first_broken, new_fault, new_faults, queue_fault, images_fault, room_fault, is_among, is_distinct, same_list}
use Rattle.gfx_model.specs.Checks.Check.{new, must, the_queue, the_images}
use Rattle.gfx_model.specs.Table.{new_each}
use Rattle.gfx_taken_law.proofs.OldChecks.{IsOther, AsksForNone, unless_not, not_taken, broken_not}

-- one of these ids was used before
pub record WasUsed (v : View) (xs : List ℕ) : Type 0 where
  pub id : ℕ
  pub among : is_among id xs ≡ true
  pub used : v.used id ≡ true

-- x is one of ds, and not one of those before it
abbrev pub IsFresh : List ℕ → List ℕ → ℕ → Type 0
IsFresh ds earlier x = (is_among x ds ≡ true) × (is_among x earlier ≡ false)

-- each of them is, one after another
abbrev pub AreFresh : List ℕ → List ℕ → List ℕ → Type 0
AreFresh ds earlier [] = Unit {0}
AreFresh ds earlier (x ∷ xs) = IsFresh ds earlier x × AreFresh ds (x ∷ earlier) xs

-- the new ids that a check asks for are of ds, none twice
abbrev pub Asks : List ℕ → Check → Type 0
Asks ds (must f b) = IsOther f
Asks ds (new earlier x) = IsFresh ds earlier x
Asks ds (the_queue device queue) = is_among queue ds ≡ true
Asks ds (the_images swapchain images) = AreFresh ds [] images
Asks ds _ = Unit {0}

pub none_asks : (ds : List ℕ) (c : Check) → AsksForNone c → Asks ds c
none_asks ds (must f b) p = p
none_asks ds (new earlier x) p = absurd p
none_asks ds (the_queue device queue) p = absurd p
none_asks ds (the_images swapchain images) p = absurd p
none_asks ds _ p = tt

-- ---- ids that differ

pub among_one : (x : ℕ) → is_among x (x ∷ []) ≡ true
among_one x = or_left (x == x) false (eq-eqb x x refl)

pub distinct_fresh : (ds earlier xs : List ℕ) → ((x : ℕ) → is_among x xs ≡ true → is_among x ds ≡ true) → ((x : ℕ) → is_among x xs ≡ true → is_among x earlier ≡ false) →
    is_distinct xs ≡ true → AreFresh ds earlier xs
distinct_fresh ds earlier [] inside apart d = tt
distinct_fresh ds earlier (x ∷ xs) inside apart d =
    let parts = and_parts (not (is_among x xs)) (is_distinct xs) d in
    let here : is_among x (x ∷ xs) ≡ true = or_left (x == x) (is_among x xs) (eq-eqb x x refl) in (
      (inside x here, apart x here),
      distinct_fresh ds (x ∷ earlier) xs
          (λ y m. inside y (or_right (x == y) (is_among y xs) m))
          (λ y m. or_from (x == y) (is_among y earlier)
          (false_from_ne_true (x == y) (λ e. both_ways (is_among x xs) (not-true (is_among x xs) parts.0) (ap (λ z. is_among z xs) (eqb-true x y e) ∙ m)))
          (apart y (or_right (x == y) (is_among y xs) m)))
          parts.1,
    )

pub each_asks : (ds earlier xs : List ℕ) → AreFresh ds earlier xs → AllByRecursion (Asks ds) (new_each earlier xs)
each_asks ds earlier [] a = tt
each_asks ds earlier (x ∷ xs) a = (a.0, each_asks ds (x ∷ earlier) xs a.1)

-- ---- the faults

first_or : (x y : Option Fault) → first x y ≡ Some IdTaken → (x ≡ Some IdTaken) ⊎ (y ≡ Some IdTaken)
first_or None y e = inr e
first_or (Some f) y e = inl e

tests_taken : (a u w : Bool) → w ≡ false → first (unless a BadValue) (unless (not u && not w) IdTaken) ≡ Some IdTaken → u ≡ true
tests_taken true true w f e = refl
tests_taken true false false f e = absurd (not_taken None tt e)
tests_taken true false true f e = absurd (both_ways true f refl)
tests_taken false u w f e = absurd (not_taken (Some BadValue) tt e)

new_taken : (v : View) (ds earlier : List ℕ) (x : ℕ) → IsFresh ds earlier x → new_fault v earlier x ≡ Some IdTaken → WasUsed v ds
new_taken v ds earlier x fresh e = record { id = x; among = fresh.0; used = tests_taken (not (x == 0)) (v.used x) (is_among x earlier) fresh.1 e }

each_taken : (v : View) (ds earlier xs : List ℕ) → AreFresh ds earlier xs → new_faults v earlier xs ≡ Some IdTaken → WasUsed v ds
each_taken v ds earlier [] a e = absurd (not_taken None tt e)
each_taken v ds earlier (x ∷ xs) a e =
    elim (first_or (new_fault v earlier x) (new_faults v (x ∷ earlier) xs) e)
    [ inl here ↦ new_taken v ds earlier x a.0 here | inr later ↦ each_taken v ds (x ∷ earlier) xs a.1 later ]

no_room : (v : View) (n : ℕ) → room_fault v n ≡ Some IdTaken → ⊥
no_room v n e = not_taken (room_fault v n) (unless_not _ LimitReached tt) e

queue_taken : (v : View) (ds : List ℕ) (queue : ℕ) (q : Option ℕ) → is_among queue ds ≡ true → queue_fault v queue q ≡ Some IdTaken → WasUsed v ds
queue_taken v ds queue (Some q) a e = absurd (not_taken (unless (q == queue) ResultDiffers) (unless_not (q == queue) ResultDiffers tt) e)
queue_taken v ds queue None a e =
    elim (first_or (new_fault v [] queue) (room_fault v 1) e) [ inl here ↦ new_taken v ds [] queue (a, refl) here | inr room ↦ absurd (no_room v 1 room) ]

images_taken : (v : View) (ds : List ℕ) (n : ℕ) (before ids : List ℕ) → AreFresh ds [] ids → images_fault v n before ids ≡ Some IdTaken → WasUsed v ds
images_taken v ds n (i ∷ before) ids a e = absurd (not_taken (unless (same_list (i ∷ before) ids) ResultDiffers) (unless_not (same_list (i ∷ before) ids) ResultDiffers tt) e)
images_taken v ds n [] ids a e =
    elim (first_or (unless _ ResultDiffers) (first (new_faults v [] ids) _) e) [
      | inl count ↦ absurd (not_taken _ (unless_not _ ResultDiffers tt) count)
      | inr rest ↦ elim (first_or (new_faults v [] ids) (room_fault v _) rest) [ inl here ↦ each_taken v ds [] ids a here | inr room ↦ absurd (no_room v _ room) ]
    ]

word_taken : (v : View) (ds : List ℕ) (c : Check) → Asks ds c → broken v c ≡ Some IdTaken → WasUsed v ds
unfolding broken
word_taken v ds (must f b) p e = absurd (not_taken _ (broken_not v (must f b) p) e)
word_taken v ds (new earlier x) p e = new_taken v ds earlier x p e
word_taken v ds (the_queue device queue) p e = queue_taken v ds queue (queue_of v device) p e
word_taken v ds (the_images swapchain images) p e = images_taken v ds (images_in v swapchain) (fetched v swapchain) images p e
word_taken v ds c p e = absurd (not_taken (broken v c) (broken_not v c tt) e)

-- the first broken of checks that ask for ids of ds
pub row_taken : (v : View) (ds : List ℕ) (cs : List Check) → AllByRecursion (Asks ds) cs → first_broken v cs ≡ Some IdTaken → WasUsed v ds
row_taken v ds [] a e = absurd (not_taken None tt e)
row_taken v ds (c ∷ cs) a e =
    elim (first_or (broken v c) (first_broken v cs) e) [ inl here ↦ word_taken v ds c a.0 here | inr later ↦ row_taken v ds cs a.1 later ]
