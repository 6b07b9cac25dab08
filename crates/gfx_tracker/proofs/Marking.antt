-- Acquired marks that are set one after another.
use Rattle.std.proofs.Common.{◌≡◌, ℕ, zero, suc, ◌==◌, ◌+◌, ◌<◌, ◌≤◌, Bool, true, false, List, [], ◌∷◌, length, take, get_or, Option, Some, None, if◌then◌else◌, refl, ap, ◌∙◌, arith}
use Rattle.std.specs.Prelude.{fold, nat_le, ◌&&◌, is_some}
use Rattle.std.specs.Option.{option_map_or}
use Rattle.std.proofs.Math.Logic.{∥∥₁_elim}
use Rattle.std.proofs.Props.{props}
use Rattle.std.proofs.lemmas.Bool.{and_parts, leb-true, eqb-true}
use Rattle.gfx_types.specs.declared.names.Kind.TheVariants as kind
use Rattle.gfx_types.specs.Names.{format_of}
use Rattle.gfx_model.specs.Events.Event.{SetSwapchainState}
use Rattle.gfx_model.specs.Spelling.{id_of}
use Rattle.gfx_model.specs.Steps.{Step, Object, Detail, kind_of, kind_number}
use Rattle.gfx_model.specs.Questions.{passes}
use Rattle.std.proofs.lemmas.Bool.Decides.{nat_tests}
use Rattle.gfx_model.specs.Steps.Step.{acquires, gives_back}
use Rattle.gfx_model.specs.Steps.Detail.{a_swapchain}
use Rattle.gfx_model.specs.Views.{View, is_live, images_in, detail_images}
use Rattle.gfx_model.specs.Checks.{broken}
use Rattle.gfx_model.specs.Table.{place_of, row_of, checks_of, is_positive}
use Rattle.gfx_model.specs.Effects.{marks}
use Rattle.gfx_model.specs.After.{after}
use Rattle.gfx_model.proofs.Covered.{unless_none}
use Rattle.gfx_model.specs.Limits.{max_swapchain_images, max_extent}
use Rattle.gfx_laws.specs.Lawful.{IsLawful, is_allowed}
use Rattle.gfx_laws.proofs.NewObjects.{all_pass}
use Rattle.gfx_tracker.specs.Taking.{IsNext}
use Rattle.gfx_tracker.proofs.Next.{is_live_by}

-- the step of one mark
abbrev pub mark : ℕ → ℕ → ℕ → Step
mark swapchain index a = if a == 1 then acquires swapchain index else gives_back swapchain index

pub marks_next : (v : View) (swapchain k : ℕ) (xs : List ℕ) (i : ℕ) → i < length xs →
    after (fold after v (marks swapchain k (take i xs))) (mark swapchain (k + i) (get_or xs i 0)) ≡ fold after v (marks swapchain k (take (suc i) xs))
marks_next v swapchain k [] i below = absurd (omega arith)
marks_next v swapchain k (x ∷ xs) zero below = ap (λ n. after v (mark swapchain n x)) (let e : k + 0 ≡ k = omega arith in e)
marks_next v swapchain k (x ∷ xs) (suc i) below =
    let w = after v (mark swapchain k x) in
    ap (λ n. after (fold after w (marks swapchain (k + 1) (take i xs))) (mark swapchain n (get_or xs i 0))) (let e : k + suc i ≡ k + 1 + i = omega arith in e)
    ∙ marks_next w swapchain (k + 1) xs i (omega arith)

mark_live : (v : View) (swapchain index a x : ℕ) → (after v (mark swapchain index a)).live x ≡ v.live x
unfolding after
mark_live v swapchain index a x = by (a == 1)
  where
    by : (t : Bool) → (after v (if t then acquires swapchain index else gives_back swapchain index)).live x ≡ v.live x
    by true = refl
    by false = refl

pub marks_live : (v : View) (swapchain k : ℕ) (xs : List ℕ) (x : ℕ) → (fold after v (marks swapchain k xs)).live x ≡ v.live x
marks_live v swapchain k [] x = refl
marks_live v swapchain k (a ∷ xs) x = marks_live (after v (mark swapchain k a)) swapchain (k + 1) xs x ∙ mark_live v swapchain k a x

-- what the checks of the marks say
pub record MarkFacts (v : View) (swapchain : ℕ) (acquired : List ℕ) : Type 0 where
  pub live : is_live v kind.Swapchain swapchain ≡ true
  pub each : length acquired ≡ images_in v swapchain
  pub few : length acquired ≤ 16

pub few_images : (v : View) (swapchain : ℕ) → IsLawful v [] → images_in v swapchain ≤ 16
few_images v swapchain h = by (v.live swapchain) refl
  where
    at : (d : Detail) → is_allowed d ≡ true → detail_images d ≤ 16
    at (a_swapchain surface images format width height usage) e =
        let limits = (and_parts (is_positive images && is_positive width && is_positive height && is_positive usage && is_some (format_of format)) (nat_le images max_swapchain_images && nat_le width max_extent && nat_le height max_extent) e).1 in
        leb-true images max_swapchain_images (and_parts (nat_le images max_swapchain_images) (nat_le width max_extent) (and_parts (nat_le images max_swapchain_images && nat_le width max_extent) (nat_le height max_extent) limits).0).0
    at _ e = omega arith

    by : (o : Option Object) → v.live swapchain ≡ o → option_map_or (λ o. detail_images o.detail) o 0 ≤ 16
    by None e = omega arith
    by (Some o) e = at o.detail ((h.objects).allowed swapchain o e)

-- a live swapchain has an image
pub some_images : (v : View) (swapchain : ℕ) → is_live v kind.Swapchain swapchain ≡ true → IsLawful v [] → 1 ≤ images_in v swapchain
some_images v swapchain live h = by (v.live swapchain) refl live
  where
    at : (d : Detail) → (kind_number (kind_of d) == 12) ≡ true → is_allowed d ≡ true → 1 ≤ detail_images d
    at (a_swapchain surface images format width height usage) k e =
        let all = (and_parts (is_positive images && is_positive width && is_positive height && is_positive usage && is_some (format_of format)) (nat_le images max_swapchain_images && nat_le width max_extent && nat_le height max_extent) e).0 in
        let four = (and_parts (is_positive images && is_positive width && is_positive height && is_positive usage) (is_some (format_of format)) all).0 in
        let three = (and_parts (is_positive images && is_positive width && is_positive height) (is_positive usage) four).0 in
        let two = (and_parts (is_positive images && is_positive width) (is_positive height) three).0 in
        let positive = (and_parts (is_positive images) (is_positive width) two).0 in
        grind (arith, nat_tests, positive)
    at _ k e = absurd cc

    by : (o : Option Object) → v.live swapchain ≡ o → passes (λ o. kind_number (kind_of o.detail) == 12) o ≡ true → 1 ≤ option_map_or (λ o. detail_images o.detail) o 0
    by None e k = absurd cc
    by (Some o) e k = at o.detail k ((h.objects).allowed swapchain o e)

pub mark_facts : (v : View) (swapchain : ℕ) (acquired : List ℕ) → IsNext v (SetSwapchainState swapchain acquired) → MarkFacts v swapchain acquired
unfolding place_of row_of id_of broken
mark_facts v swapchain acquired next =
    let all = all_pass v (checks_of (SetSwapchainState swapchain acquired)) next.passes in
    let each = eqb-true (length acquired) (images_in v swapchain) (unless_none _ _ all.1.1.0) in
    let few = ∥∥₁_elim next.lawful (hlevel props) (few_images v swapchain) in
    record { live = is_live_by v kind.Swapchain swapchain all.1.0; each = each; few = omega arith }
