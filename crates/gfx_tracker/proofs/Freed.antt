-- Command buffers that are freed one after another: each is live at its turn.
use Rattle.std.proofs.Common.{◌≡◌, ℕ, zero, suc, ◌==◌, ◌<◌, ◌≤◌, Bool, true, false, ◌&&◌, ◌||◌, List, [], ◌∷◌, length, take, map, get_or, Option, Some, None, is_some, if◌then◌else◌, refl, ap, subst, ◌∙◌, arith}
use Rattle.std.specs.Prelude.{fold}
use Rattle.std.specs.List.{AllByRecursion}
use Rattle.std.specs.Option.{option_map_or}
use Rattle.std.proofs.Math.Logic.{∥∥₁_elim}
use Rattle.std.proofs.Props.{props}
use Rattle.std.proofs.lemmas.Bool.{eqb-true, leb-true, not-true, or_parts}
use Rattle.std.proofs.lemmas.List.{length-map}
use Rattle.gfx_types.specs.declared.names.Kind.TheVariants as kind
use Rattle.gfx_model.specs.Events.Event.{FreeCommandBuffers}
use Rattle.gfx_model.specs.Spelling.{id_of}
use Rattle.gfx_model.specs.Steps.{Object}
use Rattle.gfx_model.specs.Steps.Step.{taken, ends}
use Rattle.gfx_model.specs.Questions.{is_owned, after_end}
use Rattle.gfx_model.specs.Views.{View, is_live, parent_of}
use Rattle.gfx_model.specs.Checks.{broken, is_among}
use Rattle.gfx_model.specs.Checks.Check.{of}
use Rattle.gfx_model.specs.Table.{place_of, row_of, checks_of, live_once}
use Rattle.gfx_model.specs.Effects.{effect_of}
use Rattle.gfx_model.specs.After.{after}
use Rattle.gfx_model.proofs.Covered.{unless_none}
use Rattle.gfx_laws.specs.Lawful.{IsLawful, Passes}
use Rattle.gfx_laws.proofs.Lists.{all_before, all_behind}
use Rattle.gfx_laws.proofs.NewObjects.{all_pass}
use Rattle.gfx_laws.proofs.Ready.{AllReady, AllRoom}
use Rattle.gfx_laws.proofs.LawfulSteps.{lawful_after}
use Rattle.gfx_laws.proofs.EventReady.{event_ready}
use Rattle.gfx_laws.proofs.EventRoom.{event_room}
use Rattle.gfx_tracker.specs.Taking.{IsNext, after_event}
use Rattle.gfx_tracker.proofs.LawfulEvents.{without_changes}
use Rattle.gfx_tracker.proofs.EndedUsers.{apart}
use Rattle.gfx_tracker.proofs.Next.{absorbed, is_live_by, live_some, after_some}

-- each of these is live when its turn to end comes
abbrev pub AllLive : View → List ℕ → Type 0
AllLive v [] = Unit {0}
AllLive v (x ∷ xs) = (is_some (v.live x) ≡ true) × AllLive (after v (ends x)) xs

pub live_at : (v : View) (xs : List ℕ) (k : ℕ) → k < length xs → AllLive v xs → is_some ((fold after v (map ends (take k xs))).live (get_or xs k 0)) ≡ true
live_at v [] k below all = absurd (omega arith)
live_at v (x ∷ xs) zero below all = all.0
live_at v (x ∷ xs) (suc k) below all = live_at (after v (ends x)) xs k (omega arith) all.1

-- an object of a pool that is another than the one that ends
beside : (x y pool : ℕ) (o : Option Object) → (x == y) ≡ false → (x == pool) ≡ false → option_map_or (λ o. o.parent) o 0 ≡ pool → after_end x y o ≡ o
beside x y pool None other apart made = refl
beside x y pool (Some o) other apart made = by (x == y) (is_owned o.detail) (x == o.parent) other (ap (λ p. x == p) made ∙ apart)
  where
    by : (a b c : Bool) → a ≡ false → c ≡ false → (if a || b && c then None else Some o) ≡ Some o
    by true b c e f = absurd cc
    by false true true e f = absurd cc
    by false true false e f = refl
    by false false c e f = refl

parent_by : (v : View) (x p : ℕ) → Passes v (of x p) → parent_of v x ≡ p
unfolding broken
parent_by v x p e = eqb-true (parent_of v x) p (unless_none _ _ e)

-- of the command buffers of a pool those that did not end yet are as they were
abbrev pub IsLeft : View → View → ℕ → List ℕ → Type 0
IsLeft v w pool earlier = (y : ℕ) → is_among y earlier ≡ false → parent_of v y ≡ pool → w.live y ≡ v.live y

left_after : (v w : View) (pool : ℕ) (earlier : List ℕ) (x : ℕ) → (x == pool) ≡ false → IsLeft v w pool earlier → IsLeft v (after w (ends x)) pool (x ∷ earlier)
unfolding after
left_after v w pool earlier x apart left y out made =
    let parts = or_parts (x == y) (is_among y earlier) out in
    ap (after_end x y) (left y parts.1 made) ∙ beside x y pool (v.live y) parts.0 apart made

once : (v : View) (earlier : List ℕ) (x : ℕ) (xs : List ℕ) → AllByRecursion (Passes v) (live_once kind.CommandBuffer earlier (x ∷ xs)) → is_among x earlier ≡ false
unfolding broken
once v earlier x xs a = not-true _ (unless_none _ _ a.1.0)

freed : (v w : View) (pool : ℕ) (earlier xs : List ℕ) → is_live v kind.Pool pool ≡ true → IsLeft v w pool earlier →
    AllByRecursion (Passes v) (live_once kind.CommandBuffer earlier xs) → AllByRecursion (Passes v) (map (λ cb. of cb pool) xs) → AllLive w xs
freed v w pool earlier [] there left a b = tt
freed v w pool earlier (x ∷ xs) there left a b = (
  ap is_some (left x (once v earlier x xs a) (parent_by v x pool b.0)) ∙ live_some v kind.CommandBuffer x a.0,
  freed v (after w (ends x)) pool (x ∷ earlier) xs there (left_after v w pool earlier x (apart v kind.CommandBuffer kind.Pool x pool refl (is_live_by v kind.CommandBuffer x a.0) there) left) a.1.1 b.1,
)

pub frees_live : (v : View) (device pool : ℕ) (buffers : List ℕ) → IsNext v (FreeCommandBuffers device pool buffers) → AllLive v buffers
unfolding place_of row_of id_of
frees_live v device pool buffers next =
    let all = all_pass v (checks_of (FreeCommandBuffers device pool buffers)) next.passes in
    let each : AllByRecursion (Passes v) (live_once kind.CommandBuffer [] buffers) = all_before (Passes v) (live_once kind.CommandBuffer [] buffers) (map (λ cb. of cb pool) buffers) all.1.1.1.1.1.1 in
    let made : AllByRecursion (Passes v) (map (λ cb. of cb pool) buffers) = all_behind (Passes v) (live_once kind.CommandBuffer [] buffers) (map (λ cb. of cb pool) buffers) all.1.1.1.1.1.1 in
    freed v v pool [] buffers (is_live_by v kind.Pool pool all.1.1.0) (λ y out made. refl) each made

frees_some : (v : View) (device pool : ℕ) (buffers : List ℕ) → IsNext v (FreeCommandBuffers device pool buffers) → 1 ≤ length buffers
unfolding place_of row_of id_of broken
frees_some v device pool buffers next =
    let all = all_pass v (checks_of (FreeCommandBuffers device pool buffers)) next.passes in
    leb-true 1 (length buffers) (unless_none _ _ all.1.1.1.1.0)

-- what is lawful stays so while they end
ended_lawful : (v : View) (xs : List ℕ) (k : ℕ) → IsLawful v [] → AllReady v (map ends xs) → AllRoom v (map ends xs) → IsLawful (fold after v (map ends (take k xs))) []
ended_lawful v [] zero h ready room = h
ended_lawful v [] (suc k) h ready room = h
ended_lawful v (x ∷ xs) zero h ready room = h
ended_lawful v (x ∷ xs) (suc k) h ready room =
    ended_lawful (after v (ends x)) xs k (without_changes (after v (ends x)) _ (lawful_after v (ends x) [] h ready.0 room.0)) ready.1 room.1

from_first : (v : View) (xs : List ℕ) (k : ℕ) → IsLawful v [] → AllReady v (taken ∷ map ends xs) → AllRoom v (taken ∷ map ends xs) → IsLawful (fold after v (map ends (take k xs))) []
from_first v [] zero h ready room = h
from_first v [] (suc k) h ready room = h
from_first v (x ∷ xs) zero h ready room = h
from_first v (x ∷ xs) (suc k) h ready room =
    subst (λ w. IsLawful (fold after w (map ends (take k xs))) []) (absorbed v (ends x))
    (ended_lawful (after v taken) (x ∷ xs) (suc k) (without_changes (after v taken) _ (lawful_after v taken [] h ready.0 room.0)) ready.1 room.1)

pub frees_lawful : (v : View) (device pool : ℕ) (buffers : List ℕ) (k : ℕ) → IsNext v (FreeCommandBuffers device pool buffers) → ∥ IsLawful (fold after v (map ends (take k buffers))) [] ∥₁
unfolding effect_of
frees_lawful v device pool buffers k next =
    let e = FreeCommandBuffers device pool buffers in
    ∥∥₁_elim next.lawful (hlevel props) (λ h. ∣ from_first v buffers k h (event_ready v [] h e next.passes) (event_room v e next.passes) ∣₁)

pub after_freed : (v : View) (device pool : ℕ) (buffers : List ℕ) → IsNext v (FreeCommandBuffers device pool buffers) → fold after v (map ends buffers) ≡ after_event v (FreeCommandBuffers device pool buffers)
unfolding effect_of
after_freed v device pool buffers next =
    let some = frees_some v device pool buffers next in
    after_some v (FreeCommandBuffers device pool buffers) (map ends buffers) refl (rw length-map some)
