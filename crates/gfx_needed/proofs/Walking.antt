-- Lists that are gone through, one item after the other.
use Rattle.std.proofs.Common.{◌≡◌, ℕ, zero, suc, ◌+◌, refl, sym, ap, ◌∙◌, arith, List, [], ◌∷◌, ◌++◌, take, flat_map, append-nil, Option, Some, None}
use Rattle.std.specs.Prelude.{slice_get, Result, Ok, Err, OnOk}
use Rattle.std.proofs.lemmas.Grind.{flat_map-append}
use Rattle.gfx_model.specs.Views.{View, fetched, has_index, images_in, is_one, detail_images}
use Rattle.gfx_model.specs.Steps.{Object}
use Rattle.std.specs.List.{range_with_len}
use Rattle.std.specs.Option.{option_map_or}
use Rattle.gfx_model.specs.Questions.{passes}
use Rattle.std.specs.Prelude.{◌==◌, ◌&&◌, filter}
use Rattle.gfx_tracker.specs.Tracker.{SameObjects}

module _ {X : Type 0} where
  take_suc : (xs : List X) (k : ℕ) (x : X) → Some x ≡ slice_get xs k → take (suc k) xs ≡ take k xs ++ x ∷ []
  take_suc [] zero x is = absurd (cc)
  take_suc [] (suc k) x is = absurd (cc)
  take_suc (y ∷ ys) zero x is = let same : x ≡ y = cc in ap (λ z. z ∷ []) (sym same)
  take_suc (y ∷ ys) (suc k) x is = ap (λ l. y ∷ l) (take_suc ys k x is)

  -- the items so far, with the one at this place
  pub take_there : (xs : List X) (k : ℕ) (x : X) → Some x ≡ slice_get xs k → take (k + 1) xs ≡ take k xs ++ x ∷ []
  take_there xs k x is = let one : k + 1 ≡ suc k = omega arith in ap (λ n. take n xs) one ∙ take_suc xs k x is

  -- there are no more
  pub take_past : (xs : List X) (k : ℕ) → None ≡ slice_get xs k → take k xs ≡ xs
  take_past [] zero none = refl
  take_past [] (suc k) none = refl
  take_past (y ∷ ys) zero none = absurd (cc)
  take_past (y ∷ ys) (suc k) none = ap (λ l. y ∷ l) (take_past ys k none)

  pub flat_there : (f : X → List ℕ) (xs : List X) (k : ℕ) (x : X) → Some x ≡ slice_get xs k → flat_map f (take (k + 1) xs) ≡ flat_map f (take k xs) ++ f x
  flat_there f xs k x is =
      ap (flat_map f) (take_there xs k x is) ∙ flat_map-append f (take k xs) (x ∷ []) ∙ ap (λ l. flat_map f (take k xs) ++ l) (append-nil (f x))

-- what holds where a call was done
pub still_ok : {E : Type 0} (r : Result (Unit {0}) E) (P Q : Type 0) → OnOk r P → (P → Q) → OnOk r Q
still_ok (Ok u) P Q p f = f p
still_ok (Err e) P Q p f = tt

-- the images of a swapchain are those of the same live objects
module _ (v w : View) (same : SameObjects v w) where
  pub fetched_same : (x : ℕ) → fetched v x ≡ fetched w x
  fetched_same x =
      ap (λ (live : ℕ → Option Object). flat_map (λ k. filter (λ y. passes (λ o. o.parent == x && has_index k o.detail) (live y)) v.ids)
      (range_with_len 0 (option_map_or (λ o. detail_images o.detail) (live x) 0))) same.live
      ∙ ap (λ ids. flat_map (λ k. filter (is_one w (λ o. o.parent == x && has_index k o.detail)) ids) (range_with_len 0 (images_in w x))) same.ids
