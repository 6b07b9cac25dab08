-- Live ids that one object owns, and fetched images by their indices.
use Rattle.std.proofs.Common.{◌≡◌, ℕ, zero, suc, ◌+◌, ◌-◌, ◌<◌, ◌≤◌, ◌==◌, Bool, true, false, ◌&&◌, List, [], ◌∷◌, ◌++◌, length, Option, Some, None, is_some, cond, if◌then◌else◌, refl, ap, sym, ◌∙◌, length-append, arith}
use Rattle.std.specs.Prelude.{option_map, filter, flat_map}
use Rattle.std.specs.List.{range_with_len}
use Rattle.std.specs.List.Sorted.{IsSorted, IsPermutation}
use Rattle.std.specs.Ordering.{nat_cmp}
use Rattle.std.specs.FinMap as map
use Rattle.std.proofs.lemmas.Bool.Decides.{nat_tests}
use Rattle.gfx_types.specs.declared.names.Kind.{Kind}
use Rattle.gfx_types.specs.declared.names.Kind.TheVariants as kind
use Rattle.gfx_table.specs.Dense.{is_listed, StandApart}
use Rattle.gfx_table.proofs.Sorting.{times, times_filter, listed_times, sorted_filter}
use Rattle.std.specs.Option.{option_map_or}
use Rattle.gfx_model.specs.Questions.{passes, is_owned}
use Rattle.gfx_model.specs.Steps.{Object as Made, Detail, kind_of, kind_number}
use Rattle.gfx_model.specs.Steps.Detail.{an_image, a_command_buffer}
use Rattle.gfx_model.specs.Views.{View, is_live, is_one, has_index, parent_of, images_in, fetched}
use Rattle.gfx_section_law.proofs.Picks.{length-filter}
use Rattle.gfx_objects.specs.declared.object.Object.{Object}
use Rattle.gfx_objects.specs.Object.{made}
use Rattle.gfx_objects.specs.Objects.{Kept, answers, IsSound}
use Rattle.gfx_objects.proofs.Asked.{count_answered}
use Rattle.gfx_state.specs.Ids.{owned_in, children_in}

-- ---- lists

module _ {X : Type 0} (p : X → Bool) where
  pub filter_in : (x : X) (xs : List X) → p x ≡ true → filter p (x ∷ xs) ≡ x ∷ filter p xs
  filter_in x xs is = ap (λ t. cond t (x ∷ filter p xs) (filter p xs)) is

  pub filter_out : (x : X) (xs : List X) → p x ≡ false → filter p (x ∷ xs) ≡ filter p xs
  filter_out x xs is = ap (λ t. cond t (x ∷ filter p xs) (filter p xs)) is

-- two tests in turn are one
filter_two : (p q s : ℕ → Bool) → ((x : ℕ) → p x && q x ≡ s x) → (xs : List ℕ) → filter p (filter q xs) ≡ filter s xs
filter_two p q s same [] = refl
filter_two p q s same (x ∷ xs) = by (p x) (q x) refl refl (same x) (filter_two p q s same xs)
  where
    by : (a b : Bool) → p x ≡ a → q x ≡ b → p x && q x ≡ s x → filter p (filter q xs) ≡ filter s xs
        → filter p (filter q (x ∷ xs)) ≡ filter s (x ∷ xs)
    by a b pa qb is rest = grind (arith, pa, qb, is, rest)

filter_same : (p q : ℕ → Bool) → ((x : ℕ) → p x ≡ q x) → (xs : List ℕ) → filter p xs ≡ filter q xs
filter_same p q same xs = ap (λ f. filter f xs) (λ i x. (same x) i)

-- ---- the ids that an object owns

-- the object of the id is of the kind, and the owner owns it
abbrev is_of : View → Kind → ℕ → ℕ → Bool
is_of v kind owner x = is_live v kind x && is_one v (λ o. is_owned o.detail && owner == o.parent) x

pub owned_listed : (k : Kept) (kind : Kind) (owner : ℕ) (owned xs ys : List ℕ) → StandApart owned
    → ((x : ℕ) → is_listed x owned ≡ passes (λ o. is_owned o.detail && owner == o.parent) ((answers k).live x))
    → xs ≡ filter (is_live (answers k) kind) owned → IsPermutation xs ys → IsSorted nat_cmp ys → ys ≡ owned_in (answers k) kind owner
unfolding answers
owned_listed k kind owner owned xs ys apart listed is moved sorted = sorted_filter k.rows (is_of (answers k) kind owner) xs ys moved sorted each
  where
    there : (o : Option Object) → passes (λ o. is_owned o.detail && owner == o.parent) (option_map made o) ≡ true → is_some o ≡ true
    there None is = cc
    there (Some o) is = refl

    each : (x : ℕ) → times x xs ≡ (if is_of (answers k) kind owner x && is_some (map.get k.rows x) then 1 else 0)
    each x =
        let a = ap (times x) is ∙ times_filter (is_live (answers k) kind) x owned in
        let b = listed_times owned apart x in
        let c = listed x in
        let d = there (map.get k.rows x) in
        grind (arith, a, b, c, d)

pub owned_few : (k : Kept) → IsSound k → (kind : Kind) (owner : ℕ) → length (owned_in (answers k) kind owner) ≤ 65536
owned_few k sound kind owner =
    let a = length-filter (is_of (answers k) kind owner) (answers k).ids in
    let b = count_answered k in
    let few = sound.few in
    omega (arith, a, b, few)

a_buffer_alone : (d : Detail) (p q : Bool) → p ≡ q → (kind_number (kind_of d) == 9) && (is_owned d && p) ≡ q && (kind_number (kind_of d) == 9)
a_buffer_alone a_command_buffer p q same = same ∙ sym (by q)
  where
    by : (q : Bool) → q && true ≡ q
    by true = refl
    by false = refl
a_buffer_alone _ p true same = refl
a_buffer_alone _ p false same = refl

-- a pool owns the command buffers that it is the parent of
pub buffers_owned : (v : View) (pool : ℕ) → owned_in v kind.CommandBuffer pool ≡ children_in v kind.CommandBuffer pool
buffers_owned v pool =
    filter_same (is_of v kind.CommandBuffer pool) (λ x. (parent_of v x == pool) && is_live v kind.CommandBuffer x) (λ x. by (v.live x)) v.ids
    ∙ sym (filter_two (λ x. parent_of v x == pool) (is_live v kind.CommandBuffer) (λ x. (parent_of v x == pool) && is_live v kind.CommandBuffer x) (λ x. refl) v.ids)
  where
    by : (o : Option Made) → passes (λ o. kind_number (kind_of o.detail) == 9) o && passes (λ o. is_owned o.detail && pool == o.parent) o
        ≡ (option_map_or (λ (o : Made). o.parent) o 0 == pool) && passes (λ o. kind_number (kind_of o.detail) == 9) o
    by None = grind arith
    by (Some o) = a_buffer_alone o.detail (pool == o.parent) (o.parent == pool) (grind (arith, nat_tests))

-- ---- fetched images

-- the image of a swapchain at an index
abbrev pub is_at : View → ℕ → ℕ → Bool
is_at v index = is_one v (λ o. has_index index o.detail)

an_image_alone : (d : Detail) (index : ℕ) (p q : Bool) → p ≡ q → has_index index d && ((kind_number (kind_of d) == 7) && (is_owned d && p)) ≡ q && has_index index d
an_image_alone (an_image f w h u (Some i)) index p q same = swap (i == index) q same
  where
    swap : (a q : Bool) → p ≡ q → a && p ≡ q && a
    swap true true is = is
    swap true false is = is
    swap false true _ = refl
    swap false false _ = refl
an_image_alone _ index p true same = refl
an_image_alone _ index p false same = refl

owned_at : (v : View) (swapchain index : ℕ) → filter (is_at v index) (owned_in v kind.Image swapchain) ≡ filter (is_one v (λ o. o.parent == swapchain && has_index index o.detail)) v.ids
owned_at v swapchain index =
    filter_two (is_at v index) (is_of v kind.Image swapchain) (is_one v (λ o. o.parent == swapchain && has_index index o.detail)) (λ x. by (v.live x)) v.ids
  where
    by : (o : Option Made) → passes (λ o. has_index index o.detail) o && (passes (λ o. kind_number (kind_of o.detail) == 7) o && passes (λ o. is_owned o.detail && swapchain == o.parent) o)
        ≡ passes (λ o. o.parent == swapchain && has_index index o.detail) o
    by None = refl
    by (Some o) = an_image_alone o.detail index (swapchain == o.parent) (o.parent == swapchain) (grind (arith, nat_tests))

-- the images at each of the indices
abbrev pub images_at : View → List ℕ → (from count : ℕ) → List ℕ
images_at v xs from count = flat_map (λ index. filter (is_at v index) xs) (range_with_len from count)

pub fetched_is : (v : View) (swapchain : ℕ) → images_at v (owned_in v kind.Image swapchain) 0 (images_in v swapchain) ≡ fetched v swapchain
fetched_is v swapchain = ap (λ f. flat_map f (range_with_len 0 (images_in v swapchain))) (λ i index. (owned_at v swapchain index) i)

-- the images at an index, and at those behind it
pub images_step : (v : View) (xs : List ℕ) (n index : ℕ) → index < n → images_at v xs index (n - index) ≡ filter (is_at v index) xs ++ images_at v xs (index + 1) (n - (index + 1))
images_step v xs n index below =
    let one_less : n - index ≡ suc (n - (index + 1)) = omega arith in
    ap (images_at v xs index) one_less

pub images_none : (v : View) (xs : List ℕ) (n index : ℕ) → n ≤ index → images_at v xs index (n - index) ≡ []
images_none v xs n index over =
    let none : n - index ≡ 0 = omega arith in
    ap (images_at v xs index) none

-- ---- an image is at one index at most

-- how many of the indices are those of an image
abbrev indices_of : View → ℕ → (from count : ℕ) → ℕ
indices_of v x from zero = 0
indices_of v x from (suc count) = cond (is_at v from x) 1 0 + indices_of v x (from + 1) count

no_later : (v : View) (x from count : ℕ) → ((index : ℕ) → from ≤ index → is_at v index x ≡ false) → indices_of v x from count ≡ 0
no_later v x from zero never = refl
no_later v x from (suc count) never =
    let here : ◌≡◌ {A = ℕ} (cond (is_at v from x) 1 0) 0 = ap (λ (t : Bool). cond {A = ℕ} t 1 0) (never from (omega arith)) in
    let rest = no_later v x (from + 1) count (λ index far. never index (omega (arith, far))) in
    omega (arith, here, rest)

alone : (v : View) (x at index : ℕ) → is_at v at x ≡ true → at < index → is_at v index x ≡ false
alone v x at index is far = by (v.live x) is
  where
    other : (d : Detail) → has_index at d ≡ true → has_index index d ≡ false
    other (an_image f w h u (Some i)) is = grind (arith, nat_tests, is, far)
    other _ is = absurd (cc)

    by : (o : Option Made) → passes (λ o. has_index at o.detail) o ≡ true → passes (λ o. has_index index o.detail) o ≡ false
    by None is = refl
    by (Some o) is = other o.detail is

one_index : (v : View) (x from count : ℕ) → indices_of v x from count ≤ 1
one_index v x from zero = omega arith
one_index v x from (suc count) = by (is_at v from x) refl (one_index v x (from + 1) count)
  where
    by : (t : Bool) → is_at v from x ≡ t → indices_of v x (from + 1) count ≤ 1 → indices_of v x from (suc count) ≤ 1
    by true is rest =
        let here : ◌≡◌ {A = ℕ} (cond (is_at v from x) 1 0) 1 = ap (λ (t : Bool). cond {A = ℕ} t 1 0) is in
        let none = no_later v x (from + 1) count (λ index far. alone v x from index is (omega (arith, far))) in
        omega (arith, here, none)
    by false is rest = let here : ◌≡◌ {A = ℕ} (cond (is_at v from x) 1 0) 0 = ap (λ (t : Bool). cond {A = ℕ} t 1 0) is in omega (arith, here, rest)

one_kept : (p : ℕ → Bool) (x : ℕ) (xs : List ℕ) → length (filter p (x ∷ xs)) ≡ cond (p x) 1 0 + length (filter p xs)
one_kept p x xs = by (p x)
  where
    by : (t : Bool) → length (cond t (x ∷ filter p xs) (filter p xs)) ≡ cond t 1 0 + length (filter p xs)
    by true = omega arith
    by false = omega arith

one_more : (v : View) (x : ℕ) (xs : List ℕ) (from count : ℕ) → length (images_at v (x ∷ xs) from count) ≡ indices_of v x from count + length (images_at v xs from count)
one_more v x xs from zero = omega arith
one_more v x xs from (suc count) =
    let a = length-append (filter (is_at v from) (x ∷ xs)) (images_at v (x ∷ xs) (from + 1) count) in
    let b = length-append (filter (is_at v from) xs) (images_at v xs (from + 1) count) in
    let here = one_kept (is_at v from) x xs in
    let rest = one_more v x xs (from + 1) count in
    omega (arith, a, b, here, rest)

pub images_few : (v : View) (xs : List ℕ) (from count : ℕ) → length (images_at v xs from count) ≤ length xs
images_few v [] from count = none count from
  where
    none : (count from : ℕ) → length (images_at v [] from count) ≤ 0
    none zero from = omega arith
    none (suc count) from = none count (from + 1)
images_few v (x ∷ xs) from count =
    let more = one_more v x xs from count in
    let one = one_index v x from count in
    let rest = images_few v xs from count in
    omega (arith, more, one, rest)
