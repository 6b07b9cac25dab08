-- Objects of one parent that are created one after another: each may be created at its turn.
use Rattle.std.proofs.Common.{◌≡◌, ℕ, zero, suc, ◌+◌, ◌<◌, List, [], ◌∷◌, length, take, get_or, ap, subst, ◌∙◌, arith}
use Rattle.std.specs.Prelude.{fold}
use Rattle.std.proofs.lemmas.Bool.Decides.{nat_tests}
use Rattle.gfx_model.specs.Steps.{Step, Detail}
use Rattle.gfx_model.specs.Steps.Step.{taken, creates}
use Rattle.gfx_model.specs.Views.{View}
use Rattle.gfx_model.specs.After.{after}
use Rattle.gfx_laws.specs.Lawful.{IsLawful}
use Rattle.gfx_laws.proofs.Ready.{Ready, HasRoom, AllReady, AllRoom}
use Rattle.gfx_laws.proofs.LawfulSteps.{lawful_after}
use Rattle.gfx_tracker.specs.Taking.{MayCreate}
use Rattle.gfx_tracker.proofs.Next.{unused_dead, allowed_within, bytes_of_room}

-- objects of one parent, each with the parameters of its number
abbrev pub numbered : (ℕ → Detail) → ℕ → ℕ → List ℕ → List Step
numbered d parent k [] = []
numbered d parent k (x ∷ xs) = creates x parent (d k) ∷ numbered d parent (k + 1) xs

pub numbered_next : (d : ℕ → Detail) (v : View) (parent k : ℕ) (xs : List ℕ) (i : ℕ) → i < length xs →
    after (fold after v (numbered d parent k (take i xs))) (creates (get_or xs i 0) parent (d (k + i))) ≡ fold after v (numbered d parent k (take (suc i) xs))
numbered_next d v parent k [] i below = absurd (omega arith)
numbered_next d v parent k (x ∷ xs) zero below = ap (λ n. after v (creates x parent (d n))) (let e : k + 0 ≡ k = omega arith in e)
numbered_next d v parent k (x ∷ xs) (suc i) below =
    let w = after v (creates x parent (d k)) in
    ap (λ n. after (fold after w (numbered d parent (k + 1) (take i xs))) (creates (get_or xs i 0) parent (d n))) (let e : k + suc i ≡ k + 1 + i = omega arith in e)
    ∙ numbered_next d w parent (k + 1) xs i (omega arith)

-- each of these may be created when its turn comes
abbrev pub AllMay : (ℕ → Detail) → View → ℕ → ℕ → List ℕ → Type 0
AllMay d v parent k [] = Unit {0}
AllMay d v parent k (x ∷ xs) = MayCreate v x (d k) × AllMay d (after v (creates x parent (d k))) parent (k + 1) xs

pub may_at : (d : ℕ → Detail) (v : View) (parent k : ℕ) (xs : List ℕ) (i : ℕ) → i < length xs → AllMay d v parent k xs → MayCreate (fold after v (numbered d parent k (take i xs))) (get_or xs i 0) (d (k + i))
may_at d v parent k [] i below all = absurd (omega arith)
may_at d v parent k (x ∷ xs) zero below all = subst (λ n. MayCreate v x (d n)) (let e : k ≡ k + 0 = omega arith in e) all.0
may_at d v parent k (x ∷ xs) (suc i) below all =
    let w = after v (creates x parent (d k)) in
    subst (λ n. MayCreate (fold after w (numbered d parent (k + 1) (take i xs))) (get_or xs i 0) (d n)) (let e : k + 1 + i ≡ k + suc i = omega arith in e)
    (may_at d w parent (k + 1) xs i (omega arith) all.1)

may_one : (v : View) (x p : ℕ) (d : Detail) → IsLawful v [] → Ready v (creates x p d) → HasRoom v (creates x p d) → MayCreate v x d
may_one v x p d h ready room =
    let positive = ready.positive in
    record {
      not_zero = grind (arith, nat_tests, positive);
      unused = ready.unused;
      fresh = unused_dead v h x ready.unused;
      within = allowed_within d ready.allowed;
      room = room.0;
      bytes = bytes_of_room v d (h.limits).bytes room.1;
    }

may_each : (d : ℕ → Detail) (v : View) (parent k : ℕ) (xs : List ℕ) → IsLawful v [] → AllReady v (numbered d parent k xs) → AllRoom v (numbered d parent k xs) → AllMay d v parent k xs
may_each d v parent k [] h ready room = tt
may_each d v parent k (x ∷ xs) h ready room = (
  may_one v x parent (d k) h ready.0 room.0,
  may_each d (after v (creates x parent (d k))) parent (k + 1) xs (lawful_after v (creates x parent (d k)) [] h ready.0 room.0) ready.1 room.1,
)

-- that an effect is taken readies no creation, and gives no room
ready_before : (d : ℕ → Detail) (v : View) (parent k : ℕ) (xs : List ℕ) → AllReady (after v taken) (numbered d parent k xs) → AllReady v (numbered d parent k xs)
unfolding after
ready_before d v parent k [] a = tt
ready_before d v parent k (x ∷ xs) a = a

room_before : (d : ℕ → Detail) (v : View) (parent k : ℕ) (xs : List ℕ) → AllRoom (after v taken) (numbered d parent k xs) → AllRoom v (numbered d parent k xs)
unfolding after
room_before d v parent k [] a = tt
room_before d v parent k (x ∷ xs) a = a

-- where the steps of an event create them, each may be created at its turn
pub may_taken : (d : ℕ → Detail) (v : View) (parent : ℕ) (xs : List ℕ) → IsLawful v [] → AllReady v (taken ∷ numbered d parent 0 xs) → AllRoom v (taken ∷ numbered d parent 0 xs) → AllMay d v parent 0 xs
may_taken d v parent xs h ready room = may_each d v parent 0 xs h (ready_before d v parent 0 xs ready.1) (room_before d v parent 0 xs room.1)
