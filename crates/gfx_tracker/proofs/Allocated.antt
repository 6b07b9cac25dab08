-- Command buffers that are allocated one after another: each may be created at its turn.
use Rattle.std.proofs.Common.{◌≡◌, ℕ, ◌+◌, ◌<◌, ◌≤◌, List, [], ◌∷◌, length, take, map, get_or, None, refl, ap, sym, subst}
use Rattle.std.specs.Prelude.{fold}
use Rattle.std.proofs.Math.Logic.{∥∥₁_elim}
use Rattle.std.proofs.Props.{props}
use Rattle.std.proofs.lemmas.Bool.{leb-true}
use Rattle.std.proofs.lemmas.List.{length-map}
use Rattle.gfx_model.specs.Events.Event.{AllocateCommandBuffers}
use Rattle.gfx_model.specs.Spelling.{id_of}
use Rattle.gfx_model.specs.Steps.{Step}
use Rattle.gfx_model.specs.Steps.Step.{taken, creates}
use Rattle.gfx_model.specs.Steps.Detail.{a_command_buffer}
use Rattle.gfx_model.specs.Views.{View}
use Rattle.gfx_model.specs.Checks.{broken, first_broken}
use Rattle.gfx_model.specs.Table.{place_of, row_of, checks_of}
use Rattle.gfx_model.specs.Effects.{effect_of}
use Rattle.gfx_model.specs.After.{after}
use Rattle.gfx_model.proofs.Covered.{unless_none}
use Rattle.gfx_model.specs.Limits.{max_list_length}
use Rattle.gfx_laws.specs.Lawful.{IsLawful}
use Rattle.gfx_laws.proofs.Ready.{AllReady, AllRoom}
use Rattle.gfx_laws.proofs.NewObjects.{all_pass}
use Rattle.gfx_laws.proofs.EventReady.{event_ready}
use Rattle.gfx_laws.proofs.EventRoom.{event_room}
use Rattle.gfx_tracker.specs.Taking.{IsNext, MayCreate, after_event}
use Rattle.gfx_tracker.proofs.Next.{after_some}
use Rattle.gfx_tracker.proofs.Created.{numbered, AllMay, may_at, may_taken}

-- the steps that create command buffers of a pool
abbrev pub allocations : ℕ → List ℕ → List Step
allocations pool = map (λ cb. creates cb pool a_command_buffer)

-- they are objects of one parent, whatever their numbers
numbered_allocations : (pool k : ℕ) (xs : List ℕ) → allocations pool xs ≡ numbered (λ n. a_command_buffer) pool k xs
numbered_allocations pool k [] = refl
numbered_allocations pool k (x ∷ xs) = ap (λ ss. creates x pool a_command_buffer ∷ ss) (numbered_allocations pool (k + 1) xs)

may_by : (v : View) (device pool : ℕ) (buffers : List ℕ) → first_broken v (checks_of (AllocateCommandBuffers device pool buffers)) ≡ None → IsLawful v [] → AllMay (λ n. a_command_buffer) v pool 0 buffers
unfolding effect_of
may_by v device pool buffers pass h =
    let e = AllocateCommandBuffers device pool buffers in
    let is = numbered_allocations pool 0 buffers in
    may_taken (λ n. a_command_buffer) v pool buffers h (subst (λ ss. AllReady v (taken ∷ ss)) is (event_ready v [] h e pass)) (subst (λ ss. AllRoom v (taken ∷ ss)) is (event_room v e pass))

pub allocates_may : (v : View) (device pool : ℕ) (buffers : List ℕ) (k : ℕ) → IsNext v (AllocateCommandBuffers device pool buffers) → k < length buffers →
    MayCreate (fold after v (allocations pool (take k buffers))) (get_or buffers k 0) a_command_buffer
allocates_may v device pool buffers k next below =
    subst (λ ss. MayCreate (fold after v ss) (get_or buffers k 0) a_command_buffer) (sym (numbered_allocations pool 0 (take k buffers)))
    (∥∥₁_elim next.lawful (hlevel props) (λ h. may_at (λ n. a_command_buffer) v pool 0 buffers k below (may_by v device pool buffers next.passes h)))

allocates_some : (v : View) (device pool : ℕ) (buffers : List ℕ) → IsNext v (AllocateCommandBuffers device pool buffers) → 1 ≤ length buffers
unfolding place_of row_of id_of broken
allocates_some v device pool buffers next =
    let all = all_pass v (checks_of (AllocateCommandBuffers device pool buffers)) next.passes in
    leb-true 1 (length buffers) (unless_none _ _ all.1.1.1.0)

pub allocates_few : (v : View) (device pool : ℕ) (buffers : List ℕ) → IsNext v (AllocateCommandBuffers device pool buffers) → length buffers ≤ max_list_length
unfolding place_of row_of id_of broken
allocates_few v device pool buffers next =
    let all = all_pass v (checks_of (AllocateCommandBuffers device pool buffers)) next.passes in
    leb-true (length buffers) max_list_length (unless_none _ _ all.1.1.1.1.0)

pub after_allocated : (v : View) (device pool : ℕ) (buffers : List ℕ) → IsNext v (AllocateCommandBuffers device pool buffers) → fold after v (allocations pool buffers) ≡ after_event v (AllocateCommandBuffers device pool buffers)
unfolding effect_of
after_allocated v device pool buffers next =
    let some = allocates_some v device pool buffers next in
    after_some v (AllocateCommandBuffers device pool buffers) (allocations pool buffers) refl (rw length-map some)
