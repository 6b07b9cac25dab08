-- What holds after every valid history.
use Rattle.std.proofs.Common.{◌≡◌, ℕ, Bool, true, false, refl, sym, ap, subst, arith, List, [], ◌∷◌, Option, Some, None, cond, is_some, is_none, ◌==◌}
use Rattle.std.proofs.lemmas.Bool.{and_parts, both_ways}
use Rattle.gfx_types.specs.declared.names.Fault.{Fault}
use Rattle.gfx_model.specs.Events.{Event}
use Rattle.gfx_model.specs.Steps.{Step, kind_of, kind_number}
use Rattle.gfx_model.specs.Steps.Step.{taken, changes}
use Rattle.gfx_model.specs.Questions.{executed_changes, live, ids, used, bound, mapped, buffer, signalled, acquired, layout, new_buffer, passes}
use Rattle.gfx_model.specs.Bytes.{byte}
use Rattle.gfx_model.specs.Views.{view_of, is_live}
use Rattle.gfx_model.specs.Effects.{steps_of}
use Rattle.gfx_model.specs.After.{after}
use Rattle.gfx_model.specs.History.{onto, steps, view, fault, is_valid, executed}
use Rattle.gfx_model.proofs.Steps.{view_of-step}
use Rattle.gfx_laws.specs.Lawful.{IsLawful}
use Rattle.gfx_laws.specs.Laws.{IsPlainAt}
use Rattle.gfx_laws.proofs.Cases.{by_test, some_of, none_of}
use Rattle.gfx_types.specs.declared.names.Kind.TheVariants as kind
use Rattle.gfx_laws.proofs.Ready.{AllReady, AllRoom}
use Rattle.gfx_laws.proofs.LawfulBytes.{changed}
use Rattle.gfx_laws.proofs.LawfulSteps.{lawful_after}
use Rattle.gfx_laws.proofs.EventReady.{event_ready}
use Rattle.gfx_laws.proofs.EventRoom.{event_room}

-- the changes after one step more
pub changes-step : (s : Step) (h : List Step) → executed_changes (s ∷ h) ≡ changed s (executed_changes h)
unfolding executed_changes
changes-step taken h = refl
changes-step (changes c) h = refl
changes-step _ h = refl

-- ready steps keep what is lawful
pub lawful_onto : (ss : List Step) (h : List Step) → IsLawful (view_of h) (executed_changes h) → AllReady (view_of h) ss → AllRoom (view_of h) ss → IsLawful (view_of (onto ss h)) (executed_changes (onto ss h))
lawful_onto [] h l a r = l
lawful_onto (s ∷ ss) h l a r =
    let next : IsLawful (after (view_of h) s) (changed s (executed_changes h)) = lawful_after (view_of h) s (executed_changes h) l a.0 r.0 in
    lawful_onto ss (s ∷ h)
    (subst (λ v. IsLawful v (executed_changes (s ∷ h))) (sym (view_of-step s h)) (subst (IsLawful (after (view_of h) s)) (sym (changes-step s h)) next))
    (subst (λ v. AllReady v ss) (sym (view_of-step s h)) a.1) (subst (λ v. AllRoom v ss) (sym (view_of-step s h)) r.1)

lawful_start : IsLawful (view_of []) (executed_changes [])
unfolding live ids used bound mapped signalled acquired layout executed_changes byte
lawful_start = record {
  objects = record {
    zero = refl;
    parent = λ x o e. absurd (cc);
    allowed = λ x o e. absurd (cc);
    single = λ x y o q e. absurd (cc);
    surface = λ x s o e. absurd (cc);
    used = λ x o e. absurd (cc);
    fetched = λ x o e. absurd (cc);
    memory = λ x b e. absurd (cc);
    unbound = λ x o e f. refl;
    inside = λ x o b e. absurd (cc);
    together = λ x o b e. absurd (cc);
    aligned = λ x b e. absurd (cc);
  };
  ids = record { exact = λ x. refl; rising = tt };
  layouts = record { unbound = λ x o e f b. refl; others = λ x o e f. refl; known = λ x. refl };
  buffers = record { owner = λ cb k. absurd (cc); flags = λ cb k. absurd (cc); commands = λ cb k. absurd (cc) };
  states = record { mapped = λ m r e. absurd (cc); signalled = λ x e. absurd (cc); acquired = λ x k e. absurd (cc) };
  bytes = λ at i e. refl;
  limits = record { objects = omega arith; bytes = omega arith; commands = omega arith; command_bytes = omega arith };
}

pub no_fault : (f : Option Fault) → is_none f ≡ true → f ≡ None
no_fault None e = refl
no_fault (Some f) e = absurd (cc)

pub lawful_history : (h : List Event) → is_valid h ≡ true → IsLawful (view h) (executed h)
unfolding steps
lawful_history [] e = lawful_start
lawful_history (x ∷ h) e =
    let parts = and_parts (is_valid h) (is_none (fault h x)) e in
    let before = lawful_history h parts.0 in
    lawful_onto (steps_of (view h) x) (steps h) before (event_ready (view h) (executed h) before x (no_fault _ parts.1)) (event_room (view h) x (no_fault _ parts.1))

-- answers on what is not live are plain
pub plain_history : (h : List Event) → is_valid h ≡ true → (x : ℕ) → (view h).live x ≡ None → IsPlainAt (view h) x
plain_history h e x none =
    let gone : is_some ((view h).live x) ≡ false = ap is_some none in
    record {
      bound = ap (λ t. cond t (bound (steps h) x) None) gone;
      mapped = by_test _ (is_some ((view h).mapped x))
          (λ there. absurd (
          let r = some_of ((view h).mapped x) there in
          both_ways (is_live (view h) kind.Memory x) (ap (passes (λ o. kind_number (kind_of o.detail) == 5)) none)
          (((lawful_history h e).states).mapped x r.0 r.1).is_memory))
          (none_of ((view h).mapped x));
      buffer = ap (λ t. cond t (buffer (steps h) x) new_buffer) gone;
      signalled = ap (λ t. cond t (signalled (steps h) x) false) gone;
      acquired = λ index. ap (λ t. cond {A = ℕ → Bool} t (acquired (steps h) x) (λ index. false) index) gone;
      layout = ap (λ t. cond t (layout (steps h) x) 0) gone;
    }
