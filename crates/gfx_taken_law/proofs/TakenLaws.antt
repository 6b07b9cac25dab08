-- The laws of ids that are taken.
use Rattle.std.proofs.Common.{◌≡◌, ℕ, zero, suc, Some, slice_get, ◌⊎◌, Bool, true, false, refl, sym, ◌∙◌, List, [], ◌∷◌, flat_map, cond, ◌==◌, inl, inr}
use Rattle.std.specs.List.{list_any}
use Rattle.std.proofs.lemmas.Bool.{both_ways, or_left, or_right, or_cases}
use Rattle.gfx_types.specs.declared.lists.Present.{Present}
use Rattle.gfx_model.specs.Events.{Event}
use Rattle.gfx_model.specs.Events.Event.{QueuePresentKHR}
use Rattle.gfx_model.specs.Questions.{used}
use Rattle.gfx_model.specs.Checks.{is_among}
use Rattle.gfx_model.specs.Table.{checks_of}
use Rattle.gfx_model.specs.Fields.{named_presents, one_present, field}
use Rattle.gfx_model.specs.Fields.Value.{records}
use Rattle.gfx_model.specs.Fields.Records.{presents}
use Rattle.gfx_model.specs.History.{steps, view}
use Rattle.gfx_script_model.specs.Ids.{defines_of, made_by}
use Rattle.gfx_script_model.specs.Runs.{Entry, history, history_onto}
use Rattle.gfx_taken_law.specs.Taken.{CreatesAlike, TakenIsInLog}
use Rattle.gfx_taken_law.proofs.NewIds.{row_taken}
use Rattle.gfx_taken_law.proofs.NewRows.{checks_ask}
use Rattle.gfx_taken_law.proofs.NewSteps.{used_event}

-- ---- one law for both versions: only presents differ, and they create nothing

presents_make : (m : ℕ) (ps : List Present) → flat_map (λ f. made_by f.value) (named_presents m ps) ≡ []
presents_make m ps = by (m == 1) ps
  where
    by : (t : Bool) (ps : List Present) → flat_map (λ f. made_by f.value) (cond t (one_present ps) (field "presents" (records (presents ps)) ∷ [])) ≡ []
    by false ps = refl
    by true [] = refl
    by true (p ∷ []) = refl
    by true (p ∷ q ∷ ps) = refl

pub creates_alike : CreatesAlike
unfolding defines_of
creates_alike m n (QueuePresentKHR queue waits shown) = presents_make m shown ∙ sym (presents_make n shown)
creates_alike m n _ = refl

-- ---- what is taken was created

-- an event of the history creates x
abbrev is_created : ℕ → ℕ → List Event → Bool
is_created m x h = list_any (λ e. is_among x (defines_of m e)) h

-- an id that was used after a history was created by an event of it
used_is_created : (m : ℕ) (h : List Event) (x : ℕ) → (view h).used x ≡ true → is_created m x h ≡ true
unfolding steps used
used_is_created m [] x u = absurd (both_ways false refl u)
used_is_created m (e ∷ h) x u =
    elim (used_event m (view h) e (steps h) x u) [
      | inl made ↦ or_left (is_among x (defines_of m e)) (is_created m x h) made
      | inr before ↦ or_right (is_among x (defines_of m e)) (is_created m x h) (used_is_created m h x before)
    ]

-- an entry of the log that creates x
record MadeIn (m x : ℕ) (log : List Entry) : Type 0 where
  place : ℕ
  entry : Entry
  stands : slice_get log place ≡ Some entry
  made : is_among x (defines_of m entry.event) ≡ true

made_in : (m x : ℕ) (log : List Entry) (h : List Event) → is_created m x (history_onto log h) ≡ true → MadeIn m x log ⊎ (is_created m x h ≡ true)
made_in m x [] h c = inr c
made_in m x (e ∷ es) h c =
    elim (made_in m x es (e.event ∷ h) c) [
      | inl later ↦ inl (record { place = suc later.place; entry = later.entry; stands = later.stands; made = later.made })
      | inr before ↦ elim (or_cases (is_among x (defines_of m e.event)) (is_created m x h) before)
          [ inl here ↦ inl (record { place = zero; entry = e; stands = refl; made = here }) | inr older ↦ inr older ]
    ]

pub taken_is_in_log : TakenIsInLog
taken_is_in_log m log event d f =
    let w = row_taken (view (history log)) (defines_of m event) (checks_of event) (checks_ask m event d) f in
    elim (made_in m w.id log [] (used_is_created m (history log) w.id w.used)) [
      | inl there ↦ record { id = w.id; among = w.among; place = there.place; entry = there.entry; stands = there.stands; made = there.made }
      | inr never ↦ absurd (both_ways false refl never)
    ]
