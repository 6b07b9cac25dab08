-- A follower and one block more.
use Rattle.std.proofs.Common.{◌≡◌, ℕ, true, List, ◌∷◌, Some, None, refl, sym, ap, ◌∙◌}
use Rattle.std.specs.Prelude.{unwrap_or}
use Rattle.gfx_model.specs.Events.{Event}
use Rattle.gfx_model.specs.Events.Event.{CreateInstance, QueuePresentKHR}
use Rattle.gfx_model.specs.Blocks.Content.{effect}
use Rattle.gfx_model.specs.Checks.{first_broken}
use Rattle.gfx_model.specs.Frames.{frame_of, frames}
use Rattle.gfx_model.specs.History.{fault, is_valid, view}
use Rattle.gfx_model.specs.Table.{checks_of}
use Rattle.gfx_model.specs.Views.{View}
use Rattle.gfx_model.proofs.Steps.{view-event}
use Rattle.gfx_trim_law.proofs.Prefix.{valid_more}
use Rattle.gfx_tracker.specs.Outcome.{outcome_of}
use Rattle.gfx_tracker.specs.Taking.{after_event}
use Rattle.gfx_tracker.specs.Tracker.{answers}
use Rattle.gfx_tracker.specs.declared.outcome.Outcome.TheVariants as outcome
use Rattle.gfx_player.specs.Meanings.{first_of}
use Rattle.gfx_player.proofs.Walking.{first_more}
use Rattle.gfx_range.specs.Follower.{Followed, Follows}
use Rattle.gfx_range.specs.declared.follower.Follower.{Follower}

module _ (old new : Follower) (h : List Event) (thread : ℕ) (e : Event) (s : Follows old h) (fine : first_broken (answers old.tracker) (checks_of e) ≡ None)
    (next : answers new.tracker ≡ after_event (answers old.tracker) e) where
  there : fault h e ≡ None
  there = ap (λ (v : View). first_broken v (checks_of e)) (sym s.same) ∙ fine

  after : answers new.tracker ≡ view (e ∷ h)
  after = next ∙ ap (λ v. after_event v e) s.same ∙ sym (view-event e h)

  valid : is_valid (e ∷ h) ≡ true
  valid = valid_more h (effect thread e) s.valid there

  -- an effect that shows nothing
  pub quiet_one : new.first ≡ old.first → outcome.Nothing ≡ outcome_of e → Followed new h (effect thread e) None
  unfolding frames
  quiet_one first shows = by e shows valid there after
    where
      by : (e : Event) → outcome.Nothing ≡ outcome_of e → is_valid (e ∷ h) ≡ true → fault h e ≡ None → answers new.tracker ≡ view (e ∷ h) → Followed new h (effect thread e) None
      by (QueuePresentKHR queue waits presents) shows valid there after = absurd cc
      by (CreateInstance instance api) shows valid there after = record { follows = record { valid = valid; same = after; first = first ∙ s.first }; fine = there; shows = refl }
      by e shows valid there after = record { follows = record { valid = valid; same = after; first = first ∙ s.first }; fine = there; shows = refl }

  -- a present
  pub shown_one : (number : ℕ) → number ≡ (answers old.tracker).next_frame → new.first ≡ Some (unwrap_or old.first number) → outcome.Presented ≡ outcome_of e → Followed new h (effect thread e) (Some number)
  unfolding frames
  shown_one number is first shows = by e shows valid there after
    where
      same : number ≡ (view h).next_frame
      same = is ∙ ap (λ (v : View). v.next_frame) s.same

      by : (e : Event) → outcome.Presented ≡ outcome_of e → is_valid (e ∷ h) ≡ true → fault h e ≡ None → answers new.tracker ≡ view (e ∷ h) → Followed new h (effect thread e) (Some number)
      by (QueuePresentKHR queue waits presents) shows valid there after = record {
        follows = record {
          valid = valid;
          same = after;
          first = first ∙ ap (λ o. Some (unwrap_or o number)) s.first ∙ ap (λ n. Some (unwrap_or (first_of (frames h)) n)) same ∙ first_more (frames h) (frame_of h presents);
        };
        fine = there;
        shows = ap Some same;
      }
      by e shows valid there after = absurd cc
