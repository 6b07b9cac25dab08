-- Lists that were read have a spelling.
use Rattle.std.proofs.Common.{◌≡◌, ℕ, zero, suc, ◌+◌, ◌<◌, ◌≤◌, Bool, true, false, ◌&&◌, nat_le, Fits, w64, List, [], ◌∷◌, length, get_or, map, refl, ap, sym, subst, ◌∙◌, arith}
use Rattle.std.specs.Prelude.{flat_map, ◌^◌}
use Rattle.std.specs.List.{AllByRecursion, range_with_len}
use Rattle.std.proofs.lemmas.Bool.{leb-true}
use Rattle.std.proofs.lemmas.List.FromFn.{length-map-range_with_len}
use Rattle.gfx_model.specs.Events.Event.{GetSwapchainImagesKHR, AllocateCommandBuffers, SetSwapchainState}
use Rattle.gfx_model.specs.Spelling.{FieldFits, HasSpelling, fields_of, payload, id_fields, word_fields}
use Rattle.gfx_model.specs.Section.{mark}
use Rattle.gfx_tracker.proofs.ReadItems.{items_fit}
use Rattle.gfx_section_law.proofs.Sizes.{ids_small, words_small}
use Rattle.gfx_state.specs.Images.{marks_in}

ids_fit : (ids : List ℕ) → ((i : ℕ) → Fits w64 (get_or ids i 0)) → AllByRecursion FieldFits (flat_map id_fields ids)
ids_fit ids each = items_fit id_fields ids 0 (λ i below. (let here = each i in omega (arith, here), tt))

-- ---- lists of ids, as a list of their own

module _ (device owner : ℕ) (device_fits : device < 2 ^ 64) (owner_fits : owner < 2 ^ 64) (own ids : List ℕ) (same : own ≡ ids) (few : length ids ≤ 65536) where
  length_own : length own ≤ 65536
  length_own = let is = ap (λ (l : List ℕ). length l) same in omega (arith, is, few)

  module _ (each : (i : ℕ) → Fits w64 (get_or ids i 0)) where
    own_fit : AllByRecursion FieldFits (flat_map id_fields own)
    own_fit = subst (λ (l : List ℕ). AllByRecursion FieldFits (flat_map id_fields l)) (sym same) (ids_fit ids each)

    pub fetch_spelled : HasSpelling 1 (GetSwapchainImagesKHR device owner own)
    unfolding fields_of
    fetch_spelled = let n = length_own in record { version = tt; fields = (device_fits, (owner_fits, (omega (arith, n), own_fit))) }

    pub allocate_spelled : HasSpelling 1 (AllocateCommandBuffers device owner own)
    unfolding fields_of
    allocate_spelled = let n = length_own in record { version = tt; fields = (device_fits, (owner_fits, (omega (arith, n), own_fit))) }

  pub fetch_small : length (payload 1 0 (GetSwapchainImagesKHR device owner own)) ≤ 2 ^ 27
  fetch_small = (ids_small 1 device owner own length_own).1

  pub allocate_small : length (payload 1 0 (AllocateCommandBuffers device owner own)) ≤ 2 ^ 27
  allocate_small = (ids_small 1 device owner own length_own).0

-- ---- marks

mark_small : (b : Bool) → mark b < 2 ^ 32
mark_small true = omega arith
mark_small false = omega arith

marks_fit : (acquired : ℕ → Bool) (a n : ℕ) → AllByRecursion FieldFits (flat_map word_fields (map (λ k. mark (acquired k)) (range_with_len a n)))
marks_fit acquired a zero = tt
marks_fit acquired a (suc n) = (mark_small (acquired a), marks_fit acquired (a + 1) n)

module _ (x : ℕ) (acquired : ℕ → Bool) (images : ℕ) (few : images ≤ 16) (marks : List ℕ) (is : marks ≡ marks_in acquired images) where
  length_marks : length marks ≡ images
  length_marks = ap (λ (l : List ℕ). length l) is ∙ length-map-range_with_len (λ k. mark (acquired k)) 0 images

  pub marks_spelled : x < 2 ^ 64 → HasSpelling 1 (SetSwapchainState x marks)
  unfolding fields_of
  marks_spelled fits =
      let n = length_marks in
      record { version = tt; fields = (fits, (omega (arith, n, few), subst (λ (l : List ℕ). AllByRecursion FieldFits (flat_map word_fields l)) (sym is) (marks_fit acquired 0 images))) }

  pub marks_small : length (payload 1 0 (SetSwapchainState x marks)) ≤ 2 ^ 27
  marks_small = words_small 1 x marks (let n = length_marks in omega (arith, n, few))

-- ---- lists without items

pub none_below : (xs : List ℕ) → length xs < 1 → xs ≡ []
none_below [] few = refl
none_below (x ∷ xs) few = absurd (omega (arith, few))

-- ---- limits of a swapchain

pub chain_within : (images width height : ℕ) → nat_le images 16 && nat_le width 4096 && nat_le height 4096 ≡ true → (images ≤ 16) × (width ≤ 4096) × (height ≤ 4096)
chain_within images width height within = by (nat_le images 16) (nat_le width 4096) (nat_le height 4096) refl refl refl within
  where
    by : (a b c : Bool) → nat_le images 16 ≡ a → nat_le width 4096 ≡ b → nat_le height 4096 ≡ c → a && b && c ≡ true → (images ≤ 16) × (width ≤ 4096) × (height ≤ 4096)
    by true true true i w h within = (leb-true images 16 i, leb-true width 4096 w, leb-true height 4096 h)
    by false b c i w h within = absurd (cc)
    by true false c i w h within = absurd (cc)
    by true true false i w h within = absurd (cc)
