-- A journal grows by one entry at a time.
use Rattle.std.proofs.Common.{◌≡◌, ℕ, ◌+◌, ◌<◌, All, List, [], ◌∷◌, ◌++◌, map, take, length, get_or, sym, refl, ap, ◌∙◌, arith, append_assoc}
use Rattle.std.proofs.lemmas.List.{take_more, map-append}
use Rattle.std.proofs.lemmas.List.Elements.{All-nil, All-cons, All-map, All-take}
use mathlib.Core.Logic.{dite}
use native.Mathlib.Decide.{ℕ_discrete}
use Rattle.gfx_seats.specs.Entries.{times, AreAmong, IsEntryOf, Adds}
use Rattle.gfx_seats.proofs.Totals.{times-append}
use Rattle.gfx_seats_tests.specs.declared.journal.Event.{Event}
use Rattle.gfx_seats_tests.specs.declared.journal.Event.TheVariants.{Make, End}
use Rattle.gfx_seats_tests.specs.declared.journal.Entry.{Entry}
use Rattle.gfx_seats_tests.specs.Journal.{event_ids, named_ids, entry, entry_thread, entry_ids}

pub one_more : (before log log' : List Entry) (thread i : ℕ) (events : List Event) (e : Event) → i < length events → e ≡ get_or events i e → log ≡ before ++ map (entry thread) (take i events)
    → log' ≡ log ++ entry thread e ∷ [] → log' ≡ before ++ map (entry thread) (take (i + 1) events)
one_more before log log' thread i events e less at is is' = is' ∙ ((λ j. is j ++ entry thread e ∷ []) ∙ (append_assoc before (map (entry thread) (take i events)) (entry thread e ∷ []) ∙ ap (λ l. before ++ l) (sym last)))
  where
    last : map (entry thread) (take (i + 1) events) ≡ map (entry thread) (take i events) ++ entry thread e ∷ []
    last = ap (map (entry thread)) (take_more events i e less ∙ (λ j. take i events ++ sym at j ∷ [])) ∙ map-append (entry thread) (take i events) (e ∷ [])

each-named : (es : List Event) → All (λ e. AreAmong (event_ids e) (named_ids es)) es
each-named [] = All-nil (λ e. AreAmong (event_ids e) [])
each-named (e ∷ es) = All-cons (λ y. AreAmong (event_ids y) (named_ids (e ∷ es))) e es
    (λ x pos. let t = times-append x (event_ids e) (named_ids es) in omega arith)
    (λ k d less x pos. let r = each-named es k d less x pos in let t = times-append x (event_ids e) (named_ids es) in omega arith)

-- the first events of a batch add only what is new in it
pub adds-first : (before after : List Entry) (thread n : ℕ) (events : List Event) → after ≡ before ++ map (entry thread) (take n events) → Adds entry_thread entry_ids before thread (named_ids events) after
adds-first before after thread n events is = (
  map (entry thread) (take n events),
  is,
  All-map (IsEntryOf entry_thread entry_ids thread (named_ids events)) (entry thread) (take n events)
      (All-take (λ e. IsEntryOf entry_thread entry_ids thread (named_ids events) (entry thread e)) n events (λ k d less. (refl, each-named events k d less))),
)

pub named_more : (es : List Event) (e : Event) (drawn : List ℕ) → AreAmong (named_ids es) drawn → AreAmong (event_ids e) drawn → AreAmong (named_ids (es ++ e ∷ [])) drawn
named_more [] e drawn h k x pos = let t = times-append x (event_ids e) [] in k x (omega arith)
named_more (y ∷ es) e drawn h k x pos = let t = times-append x (event_ids y) (named_ids (es ++ e ∷ [])) in let u = times-append x (event_ids y) (named_ids es) in dite (ℕ_discrete (times x (event_ids y)) 0)
    (λ none_here. named_more es e drawn (λ z p. let w = times-append z (event_ids y) (named_ids es) in h z (omega arith)) k x (omega arith))
    (λ some_here. h x (omega arith))

-- an event that makes the id that was drawn last
pub made_more : (es : List Event) (id : ℕ) (drawn : List ℕ) → AreAmong (named_ids es) drawn → AreAmong (named_ids (es ++ Make id ∷ [])) (drawn ++ id ∷ [])
made_more es id drawn h = named_more es (Make id) (drawn ++ id ∷ []) (λ x pos. let t = times-append x drawn (id ∷ []) in let r = h x pos in omega arith) (λ x pos. let t = times-append x drawn (id ∷ []) in omega arith)

-- an event that ends an id names none
pub ended_more : (es : List Event) (id : ℕ) → named_ids (es ++ End id ∷ []) ≡ named_ids es
ended_more [] id = refl
ended_more (e ∷ es) id = ap (λ (l : List ℕ). event_ids e ++ l) (ended_more es id)
