-- What a present and a reset of fences need: what their checks say of each item.
use Rattle.std.proofs.Common.{◌≡◌, ℕ, ◌≤◌, List, [], ◌∷◌, ◌++◌, map, refl, ap, ◌∙◌}
use Rattle.std.specs.Prelude.{flat_map}
use Rattle.std.specs.List.{AllByRecursion}
use Rattle.std.proofs.lemmas.Bool.{leb-true}
use Rattle.gfx_types.specs.declared.names.Kind.TheVariants as kind
use Rattle.gfx_types.specs.declared.lists.Present.{Present}
use Rattle.gfx_model.specs.Events.Event.{ResetFences, QueuePresentKHR}
use Rattle.gfx_model.specs.Spelling.{id_of}
use Rattle.gfx_model.specs.Steps.Step.{taken, unsignals}
use Rattle.gfx_model.specs.Views.{View}
use Rattle.gfx_model.specs.Checks.{broken, is_distinct}
use Rattle.gfx_model.specs.Checks.Turn.{wait}
use Rattle.gfx_model.specs.Checks.Check.{live, of, index_in, is_acquired, presentable, in_turn, frame_room}
use Rattle.gfx_model.specs.Table.{place_of, row_of, checks_of, between, near_each, value}
use Rattle.gfx_model.specs.Effects.{steps_of_turn}
use Rattle.gfx_model.specs.After.{after}
use Rattle.gfx_model.proofs.Covered.{unless_none}
use Rattle.gfx_model.proofs.Lists.{all_along}
use Rattle.gfx_laws.specs.Lawful.{Passes, has_signal}
use Rattle.gfx_model.specs.Questions.{passes}
use Rattle.gfx_model.specs.Limits.{max_frame}
use Rattle.gfx_laws.proofs.Lists.{all_before, all_behind, all_zip}
use Rattle.gfx_laws.proofs.NewObjects.{all_pass}
use Rattle.gfx_tracker.specs.Taking.{IsNext, HasSignal, HasIndex}
use Rattle.gfx_tracker.proofs.Next.{fence_signal, is_live_by, index_below}

pub all_from_map : {X Y : Type 0} (P : Y → Type 0) (f : X → Y) (xs : List X) → AllByRecursion P (map f xs) → AllByRecursion (λ x. P (f x)) xs
all_from_map P f [] a = tt
all_from_map P f (x ∷ xs) a = (a.0, all_from_map P f xs a.1)

-- each fence that is reset has a signal
pub fences_have : (v w : View) (device : ℕ) (fences : List ℕ) → IsNext v (ResetFences device fences) → w ≡ after v taken → AllByRecursion (HasSignal w) fences
unfolding place_of row_of id_of after
fences_have v w device fences next is =
    let all = (all_pass v (checks_of (ResetFences device fences)) next.passes).1.1.1.1 in
    let each : AllByRecursion (Passes v) (map (live kind.Fence) fences) = all_before (Passes v) (map (live kind.Fence) fences) (map (λ f. of f device) fences) all in
    all_along (λ x. Passes v (live kind.Fence x)) (HasSignal w)
    (λ x pass. ap (λ (w : View). passes (λ o. has_signal o.detail) (w.live x)) is ∙ fence_signal v x pass)
    fences (all_from_map (Passes v) (live kind.Fence) fences each)

-- the waits of a present are unsignalled, one after another
pub waits_unsignal : (v : View) (waits : List ℕ) → flat_map (steps_of_turn v) (map wait waits) ≡ map unsignals waits
waits_unsignal v [] = refl
waits_unsignal v (s ∷ ss) = ap (λ steps. unsignals s ∷ steps) (waits_unsignal v ss)

-- what the checks of a present say
pub record PresentFacts (v : View) (waits : List ℕ) (ps : List Present) : Type 0 where
  pub waited : AllByRecursion (λ x. Passes v (live kind.Semaphore x)) waits
  pub shown : AllByRecursion (HasIndex v) ps
  pub frame : v.next_frame ≤ max_frame

pub present_facts : (v : View) (queue : ℕ) (waits : List ℕ) (ps : List Present) → IsNext v (QueuePresentKHR queue waits ps) → PresentFacts v waits ps
unfolding place_of row_of id_of broken
present_facts v queue waits ps next =
    let w = near_each kind.Semaphore queue waits in
    let b = between 1 8 ps in
    let s = near_each kind.Swapchain queue (map (λ p. p.swapchain) ps) in
    let i = value (is_distinct (map (λ p. p.swapchain) ps)) ∷ map (λ p. index_in p.swapchain p.index) ps in
    let a = map (λ p. is_acquired p.swapchain p.index) ps in
    let l = map (λ p. presentable p.swapchain p.index) ps in
    let t = in_turn (map wait waits) ∷ frame_room ∷ [] in
    let all : AllByRecursion (Passes v) ((((((w ++ b) ++ s) ++ i) ++ a) ++ l) ++ t) = (all_pass v (checks_of (QueuePresentKHR queue waits ps)) next.passes).1.1.1.1 in
    let before_t : AllByRecursion (Passes v) (((((w ++ b) ++ s) ++ i) ++ a) ++ l) = all_before (Passes v) (((((w ++ b) ++ s) ++ i) ++ a) ++ l) t all in
    let before_l : AllByRecursion (Passes v) ((((w ++ b) ++ s) ++ i) ++ a) = all_before (Passes v) ((((w ++ b) ++ s) ++ i) ++ a) l before_t in
    let before_a : AllByRecursion (Passes v) (((w ++ b) ++ s) ++ i) = all_before (Passes v) (((w ++ b) ++ s) ++ i) a before_l in
    let before_i : AllByRecursion (Passes v) ((w ++ b) ++ s) = all_before (Passes v) ((w ++ b) ++ s) i before_a in
    let at_i : AllByRecursion (Passes v) i = all_behind (Passes v) ((w ++ b) ++ s) i before_a in
    let at_s : AllByRecursion (Passes v) s = all_behind (Passes v) (w ++ b) s before_i in
    let at_w : AllByRecursion (Passes v) w = all_before (Passes v) w b (all_before (Passes v) (w ++ b) s before_i) in
    let at_t : AllByRecursion (Passes v) t = all_behind (Passes v) (((((w ++ b) ++ s) ++ i) ++ a) ++ l) t all in
    let lives : AllByRecursion (λ p. Passes v (live kind.Swapchain p.swapchain)) ps =
    all_from_map (λ x. Passes v (live kind.Swapchain x)) (λ (p : Present). p.swapchain) ps
    (all_from_map (Passes v) (live kind.Swapchain) (map (λ p. p.swapchain) ps) (all_before (Passes v) (map (live kind.Swapchain) (map (λ p. p.swapchain) ps)) _ at_s)) in
    let indices : AllByRecursion (λ p. Passes v (index_in p.swapchain p.index)) ps = all_from_map (Passes v) (λ (p : Present). index_in p.swapchain p.index) ps at_i.1 in
    record {
      waited = all_from_map (Passes v) (live kind.Semaphore) waits (all_before (Passes v) (map (live kind.Semaphore) waits) _ at_w);
      shown = all_zip (λ p. Passes v (live kind.Swapchain p.swapchain)) (λ p. Passes v (index_in p.swapchain p.index)) (HasIndex v)
          (λ p a b. record { live = is_live_by v kind.Swapchain p.swapchain a; below = index_below v p.swapchain p.index b }) ps lives indices;
      frame = leb-true v.next_frame max_frame (unless_none _ _ at_t.1.0);
    }
