-- The first place of a call at which a command buffer does not meet its layouts, and the places that are passed.
use Rattle.std.proofs.Common.{◌≡◌, ◌≢◌, ◌<◌, ◌≤◌, ◌+◌, ℕ, Option, Some, None, List, length, refl, ap, subst, IfSome, arith}
use Rattle.gfx_types.specs.declared.names.Fault.{Fault}
use Rattle.gfx_types.specs.declared.lists.Submit.{Submit}
use Rattle.gfx_model.specs.Checks.{first}
use Rattle.gfx_model.specs.Layouts.{cbs_at}

-- what holds of any place holds of the one that there is
pub found : (P : ℕ × ℕ → Type 0) (o : Option (ℕ × ℕ)) (place : ℕ × ℕ) → o ≡ Some place → IfSome o P → P place
found P o place is h = subst (λ q. IfSome q P) is h

pub at_first : (o : Option (ℕ × ℕ)) → IfSome o (λ place. 0 ≤ place.0)
at_first None = tt
at_first (Some place) = omega arith

-- in a submit that is begun no place is passed
pub submit_begins : (o : Option (ℕ × ℕ)) (s : ℕ) → IfSome o (λ place. s ≤ place.0) → IfSome o (λ place. (s ≤ place.0) × (s ≡ place.0 → 0 ≤ place.1))
submit_begins None s h = tt
submit_begins (Some place) s h = (h, λ e. omega arith)

-- a place that is not the first which differs is before it
pub stands_before : (o : Option (ℕ × ℕ)) (s a : ℕ) → IfSome o (λ place. (s ≤ place.0) × (s ≡ place.0 → a ≤ place.1)) → o ≢ Some (s, a)
    → IfSome o (λ place. (s ≤ place.0) × (s ≡ place.0 → a < place.1))
stands_before None s a h not_here = tt
stands_before (Some (x, y)) s a h not_here = (
  h.0,
  λ e.
      let low : a ≤ y = h.1 e in
      let other : a ≢ y = λ f. not_here (cc) in
      omega arith,
)

pub place_passes : (o : Option (ℕ × ℕ)) (s a : ℕ) → IfSome o (λ place. (s ≤ place.0) × (s ≡ place.0 → a < place.1))
    → IfSome o (λ place. (s ≤ place.0) × (s ≡ place.0 → a + 1 ≤ place.1))
place_passes None s a h = tt
place_passes (Some place) s a h = (h.0, λ e. let low : a < place.1 = h.1 e in omega arith)

-- where all places of a submit are passed, it is
pub submit_ends : (submits : List Submit) (o : Option (ℕ × ℕ)) (s a : ℕ) → length (cbs_at submits s) ≤ a
    → IfSome o (λ place. (place.0 < length submits) × (place.1 < length (cbs_at submits place.0)))
    → IfSome o (λ place. (s ≤ place.0) × (s ≡ place.0 → a ≤ place.1)) → IfSome o (λ place. s < place.0)
submit_ends submits None s a h inside passed = tt
submit_ends submits (Some place) s a h inside passed =
    let other : s ≢ place.0 = λ e.
    let low : a ≤ place.1 = passed.1 e in
    let high : length (cbs_at submits s) ≡ length (cbs_at submits place.0) = ap (λ n. length (cbs_at submits n)) e in
    let below : place.1 < length (cbs_at submits place.0) = inside.1 in
    absurd (omega arith) in
    let least : s ≤ place.0 = passed.0 in
    omega arith

pub submit_passes_place : (o : Option (ℕ × ℕ)) (s : ℕ) → IfSome o (λ place. s < place.0) → IfSome o (λ place. s + 1 ≤ place.0)
submit_passes_place None s h = tt
submit_passes_place (Some place) s h = omega arith

-- the second of three faults is none where the first of them is
pub middle_none : (a b c r : Option Fault) → r ≡ first (first a b) c → r ≡ None → b ≡ None
middle_none None None c r e h = refl
middle_none None (Some f) c r e h = absurd cc
middle_none (Some f) b c r e h = absurd cc
