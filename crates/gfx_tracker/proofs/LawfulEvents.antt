-- What is lawful stays so through an effect that breaks no check.
use Rattle.std.proofs.Common.{◌≡◌, List, [], ◌∷◌, None, Result, Ok, Err, OnOk, OnErr, refl, sym, subst}
use Rattle.std.specs.Prelude.{fold}
use Rattle.std.proofs.Math.Logic.{∥∥₁_elim}
use Rattle.std.proofs.Props.{props}
use Rattle.gfx_types.specs.declared.WantMemory.{WantMemory}
use Rattle.gfx_model.specs.Events.{Event}
use Rattle.gfx_model.specs.Steps.{Step, Change}
use Rattle.gfx_model.specs.Questions.{executed_changes}
use Rattle.gfx_model.specs.Views.{View, view_of}
use Rattle.gfx_model.specs.Checks.{first_broken}
use Rattle.gfx_model.specs.Table.{checks_of}
use Rattle.gfx_model.specs.Effects.{steps_of}
use Rattle.gfx_model.specs.Bytes.{byte}
use Rattle.gfx_model.specs.After.{after}
use Rattle.gfx_model.specs.History.{steps}
use Rattle.gfx_laws.specs.Lawful.{IsLawful}
use Rattle.gfx_laws.proofs.Ready.{AllReady, AllRoom}
use Rattle.gfx_laws.proofs.LawfulSteps.{lawful_after}
use Rattle.gfx_laws.proofs.EventReady.{event_ready}
use Rattle.gfx_laws.proofs.EventRoom.{event_room}
use Rattle.gfx_laws.proofs.ValidHistories.{lawful_history}
use Rattle.gfx_tracker.specs.Taking.{after_event}

-- no changes leave zeros
pub without_changes : (v : View) (es : List Change) → IsLawful v es → IsLawful v []
unfolding byte
without_changes v es h = record {
  objects = h.objects;
  ids = h.ids;
  layouts = h.layouts;
  buffers = h.buffers;
  states = h.states;
  bytes = λ at i e. refl;
  limits = h.limits;
}

lawful_steps : (v : View) (ss : List Step) → IsLawful v [] → AllReady v ss → AllRoom v ss → IsLawful (fold after v ss) []
lawful_steps v [] h ready room = h
lawful_steps v (s ∷ ss) h ready room = lawful_steps (after v s) ss (without_changes (after v s) _ (lawful_after v s [] h ready.0 room.0)) ready.1 room.1

pub lawful_event : (v : View) (e : Event) → first_broken v (checks_of e) ≡ None → IsLawful v [] → IsLawful (after_event v e) []
lawful_event v e pass h = lawful_steps v (steps_of v e) h (event_ready v [] h e pass) (event_room v e pass)

-- whether the event was taken, or all is as it was
pub lawful_taken : (v w : View) (e : Event) (r : Result (Unit {0}) WantMemory) → first_broken v (checks_of e) ≡ None → ∥ IsLawful v [] ∥₁ →
    OnOk r (w ≡ after_event v e) → OnErr r (w ≡ v) → ∥ IsLawful w [] ∥₁
lawful_taken v w e (Ok _) pass h ok err = ∥∥₁_elim h (hlevel props) (λ l. subst (λ u. ∥ IsLawful u [] ∥₁) (sym ok) (∣ lawful_event v e pass l ∣₁))
lawful_taken v w e (Err _) pass h ok err = subst (λ u. ∥ IsLawful u [] ∥₁) (sym err) h

pub lawful_start : IsLawful (view_of []) []
unfolding steps executed_changes
lawful_start = lawful_history [] refl
