-- Images of a swapchain that are fetched one after another: each may be created at its turn.
use Rattle.std.proofs.Common.{◌≡◌, ℕ, ◌+◌, ◌<◌, ◌≤◌, Bool, true, false, List, [], ◌∷◌, length, take, get_or, Option, Some, None, is_some, refl, ap, sym, subst, ◌∙◌, arith}
use Rattle.std.specs.Prelude.{fold, slice_get}
use Rattle.std.proofs.Math.Logic.{∥∥₁_elim}
use Rattle.std.proofs.Props.{props}
use Rattle.std.proofs.lemmas.Bool.{eqb-true}
use Rattle.gfx_types.specs.declared.names.Kind.TheVariants as kind
use Rattle.gfx_model.specs.Events.Event.{GetSwapchainImagesKHR}
use Rattle.gfx_model.specs.Spelling.{id_of}
use Rattle.gfx_model.specs.Steps.{Step, Detail}
use Rattle.gfx_model.specs.Steps.Step.{taken, creates}
use Rattle.gfx_model.specs.Steps.Detail.{an_image}
use Rattle.gfx_model.specs.Views.{View, fetched, images_in, format_at, width_of, height_of, usage_in}
use Rattle.gfx_model.specs.Checks.{broken, first_broken, images_fault}
use Rattle.gfx_model.specs.Table.{place_of, row_of, checks_of}
use Rattle.gfx_model.specs.Effects.{effect_of, fetches, first_fetch}
use Rattle.gfx_model.specs.After.{after}
use Rattle.gfx_model.proofs.Covered.{unless_none, first_none}
use Rattle.gfx_laws.specs.Lawful.{IsLawful}
use Rattle.gfx_laws.proofs.Ready.{AllReady, AllRoom}
use Rattle.gfx_laws.proofs.NewObjects.{all_pass}
use Rattle.gfx_laws.proofs.EventReady.{event_ready}
use Rattle.gfx_laws.proofs.EventRoom.{event_room}
use Rattle.gfx_tracker.specs.Taking.{IsNext, MayCreate, after_event}
use Rattle.gfx_tracker.proofs.Next.{after_steps, is_live_by}
use Rattle.gfx_tracker.proofs.Created.{numbered, AllMay, may_at, may_taken}
use Rattle.gfx_tracker.proofs.Marking.{few_images, some_images}

-- the parameters of a swapchain's image
abbrev pub image_of : View → ℕ → ℕ → Detail
image_of v swapchain k = an_image (format_at v swapchain) (width_of v swapchain) (height_of v swapchain) (usage_in v swapchain) (Some k)

fetches_numbered : (v : View) (swapchain k : ℕ) (xs : List ℕ) → fetches v swapchain k xs ≡ numbered (image_of v swapchain) swapchain k xs
fetches_numbered v swapchain k [] = refl
fetches_numbered v swapchain k (x ∷ xs) = ap (λ ss. creates x swapchain (image_of v swapchain k) ∷ ss) (fetches_numbered v swapchain (k + 1) xs)

-- ---- what the checks of a first fetch say

abbrev pub fetch_steps : View → ℕ → List ℕ → List Step
fetch_steps v swapchain = numbered (image_of v swapchain) swapchain 0

first_steps : (v : View) (device swapchain : ℕ) (ids : List ℕ) → fetched v swapchain ≡ [] → effect_of v (GetSwapchainImagesKHR device swapchain ids) ≡ fetch_steps v swapchain ids
unfolding effect_of
first_steps v device swapchain ids none = ap (λ f. first_fetch f (fetches v swapchain 0 ids)) none ∙ fetches_numbered v swapchain 0 ids

may_by : (v : View) (device swapchain : ℕ) (ids : List ℕ) → first_broken v (checks_of (GetSwapchainImagesKHR device swapchain ids)) ≡ None → fetched v swapchain ≡ [] → IsLawful v [] → AllMay (image_of v swapchain) v swapchain 0 ids
may_by v device swapchain ids pass none h =
    let e = GetSwapchainImagesKHR device swapchain ids in
    let steps = fetch_steps v swapchain ids in
    let ready : AllReady v (taken ∷ steps) = subst (λ ss. AllReady v (taken ∷ ss)) (first_steps v device swapchain ids none) (event_ready v [] h e pass) in
    let room : AllRoom v (taken ∷ steps) = subst (λ ss. AllRoom v (taken ∷ ss)) (first_steps v device swapchain ids none) (event_room v e pass) in
    may_taken (image_of v swapchain) v swapchain ids h ready room

pub fetch_may : (v : View) (device swapchain : ℕ) (ids : List ℕ) (i : ℕ) → IsNext v (GetSwapchainImagesKHR device swapchain ids) → fetched v swapchain ≡ [] → i < length ids →
    MayCreate (fold after v (fetch_steps v swapchain (take i ids))) (get_or ids i 0) (image_of v swapchain (0 + i))
fetch_may v device swapchain ids i next none below =
    ∥∥₁_elim next.lawful (hlevel props) (λ h. may_at (image_of v swapchain) v swapchain 0 ids i below (may_by v device swapchain ids next.passes none h))

fetch_each : (v : View) (device swapchain : ℕ) (ids : List ℕ) → IsNext v (GetSwapchainImagesKHR device swapchain ids) → fetched v swapchain ≡ [] → length ids ≡ images_in v swapchain
unfolding place_of row_of id_of broken
fetch_each v device swapchain ids next none =
    let all = all_pass v (checks_of (GetSwapchainImagesKHR device swapchain ids)) next.passes in
    let pass : images_fault v (images_in v swapchain) [] ids ≡ None = ap (λ f. images_fault v (images_in v swapchain) f ids) (sym none) ∙ all.1.1.1.0 in
    eqb-true (length ids) (images_in v swapchain) (unless_none _ _ (first_none _ _ pass).0)

pub fetch_few : (v : View) (device swapchain : ℕ) (ids : List ℕ) → IsNext v (GetSwapchainImagesKHR device swapchain ids) → fetched v swapchain ≡ [] → length ids ≤ 16
fetch_few v device swapchain ids next none =
    let each = fetch_each v device swapchain ids next none in
    let few = ∥∥₁_elim next.lawful (hlevel props) (few_images v swapchain) in
    omega arith

fetch_some : (v : View) (device swapchain : ℕ) (ids : List ℕ) → IsNext v (GetSwapchainImagesKHR device swapchain ids) → fetched v swapchain ≡ [] → 1 ≤ length ids
unfolding place_of row_of id_of
fetch_some v device swapchain ids next none =
    let live = is_live_by v kind.Swapchain swapchain (all_pass v (checks_of (GetSwapchainImagesKHR device swapchain ids)) next.passes).1.0 in
    let each = fetch_each v device swapchain ids next none in
    let some = ∥∥₁_elim next.lawful (hlevel props) (some_images v swapchain live) in
    omega arith

pub after_fetched : (v : View) (device swapchain : ℕ) (ids : List ℕ) → IsNext v (GetSwapchainImagesKHR device swapchain ids) → fetched v swapchain ≡ [] →
    fold after v (fetch_steps v swapchain ids) ≡ after_event v (GetSwapchainImagesKHR device swapchain ids)
after_fetched v device swapchain ids next none =
    by ids (first_steps v device swapchain ids none) (fetch_some v device swapchain ids next none)
  where
    by : (xs : List ℕ) → effect_of v (GetSwapchainImagesKHR device swapchain ids) ≡ fetch_steps v swapchain xs → 1 ≤ length xs → fold after v (fetch_steps v swapchain xs) ≡ after_event v (GetSwapchainImagesKHR device swapchain ids)
    by [] is some = absurd (omega arith)
    by (x ∷ xs) is some = after_steps v (GetSwapchainImagesKHR device swapchain ids) (creates x swapchain (image_of v swapchain 0)) (numbered (image_of v swapchain) swapchain (0 + 1) xs) is

-- ---- what the row reads

pub none_fetched : (xs : List ℕ) (r : Option ℕ) (there : Bool) → r ≡ slice_get xs 0 → there ≡ is_some r → there ≡ false → xs ≡ []
none_fetched [] r there is some none = refl
none_fetched (x ∷ xs) r there is some none = absurd cc

pub fetched_before : (v : View) (device swapchain : ℕ) (ids : List ℕ) (r : Option ℕ) → r ≡ slice_get (fetched v swapchain) 0 → is_some r ≡ true → effect_of v (GetSwapchainImagesKHR device swapchain ids) ≡ []
unfolding effect_of
fetched_before v device swapchain ids r is some = by (fetched v swapchain) is
  where
    by : (xs : List ℕ) → r ≡ slice_get xs 0 → first_fetch xs (fetches v swapchain 0 ids) ≡ []
    by [] is = absurd cc
    by (x ∷ xs) is = refl

pub image_is : (v : View) (swapchain i format width height usage : ℕ) → format ≡ format_at v swapchain → width ≡ width_of v swapchain → height ≡ height_of v swapchain → usage ≡ usage_in v swapchain →
    an_image format width height usage (Some i) ≡ image_of v swapchain (0 + i)
image_is v swapchain i format width height usage f w h u =
    ap (λ n. an_image n width height usage (Some i)) f
    ∙ ap (λ n. an_image (format_at v swapchain) n height usage (Some i)) w
    ∙ ap (λ n. an_image (format_at v swapchain) (width_of v swapchain) n usage (Some i)) h
    ∙ ap (λ n. an_image (format_at v swapchain) (width_of v swapchain) (height_of v swapchain) n (Some i)) u
    ∙ ap (image_of v swapchain) (let e : i ≡ 0 + i = omega arith in e)
