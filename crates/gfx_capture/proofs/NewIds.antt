-- A pass that makes new ids finds none of them taken.
use Rattle.std.proofs.Common.{◌≡◌, ℕ, zero, suc, ◌+◌, ◌<◌, ◌≤◌, ◌==◌, Bool, true, false, List, [], ◌∷◌, ◌++◌, take, Some, slice_get, refl, sym, ap, ◌∙◌, subst, arith, inl, inr, Ok, Err, Result}
use Rattle.std.proofs.lemmas.Bool.{or_cases, or_parts, or_left, or_right}
use Rattle.std.proofs.lemmas.Bool.Decides.{nat_tests}
use Rattle.gfx_types.specs.declared.names.Fault.TheVariants.{IdTaken}
use Rattle.gfx_model.specs.Events.{Event}
use Rattle.gfx_model.specs.Checks.{is_among, is_distinct}
use Rattle.gfx_model.specs.History.{fault}
use Rattle.gfx_script_model.specs.Runs.{Entry, history}
use Rattle.gfx_taken_law.proofs.TakenLaws.{taken_is_in_log}
use Rattle.gfx_seats.specs.declared.hand.Hand.{Hand}
use Rattle.gfx_seats.specs.Entries.{weight, times, AreAmong, created}
use Rattle.gfx_seats.specs.Hand.{CreatesAlone}
use Rattle.gfx_seats.proofs.Totals.{times-append, total-append}
use Rattle.gfx_capture.specs.declared.answer.Receipt.{Receipt}
use Rattle.gfx_capture.specs.declared.answer.AppendFault.{AppendFault}
use Rattle.gfx_capture.specs.declared.answer.AppendFault.TheVariants as append
use Rattle.gfx_capture.specs.Entry.{entries_under, event_ids, entry_ids, named_ids}
use Rattle.gfx_capture.specs.Pass.{Tells, AreNew, IsNotTaken}

-- what is in a list is there at least once
among-times : (x : ℕ) (xs : List ℕ) → is_among x xs ≡ true → 0 < times x xs
among-times x [] is = absurd cc
among-times x (y ∷ ys) is =
    elim (or_cases (y == x) (is_among x ys) is) [
      | inl here ↦ let one : weight (y == x) ≡ 1 = ap weight here in omega arith
      | inr later ↦ let rest = among-times x ys later in omega arith
    ]

-- a number that is not in a list is there no time
none-times : (x : ℕ) (xs : List ℕ) → is_among x xs ≡ false → times x xs ≡ 0
none-times x [] none = refl
none-times x (y ∷ ys) none =
    let parts = or_parts (y == x) (is_among x ys) none in
    let here : weight (y == x) ≡ 0 = ap weight parts.0 in let rest = none-times x ys parts.1 in omega arith

-- a number is in a list of different numbers once at most
distinct-once : (xs : List ℕ) → is_distinct xs ≡ true → (x : ℕ) → times x xs ≤ 1
distinct-once [] distinct x = omega arith
distinct-once (y ∷ ys) distinct x = by (distinct-once ys (grind (arith, distinct)) x) (y == x) refl
  where
    by : times x ys ≤ 1 → (t : Bool) → (y == x) ≡ t → times x (y ∷ ys) ≤ 1
    by rest true e =
        let here : weight (y == x) ≡ 1 = ap weight e in
        let same : y ≡ x = grind (arith, nat_tests, e) in
        let none : is_among y ys ≡ false = grind (arith, distinct) in
        let no_more = none-times x ys (sym (ap (λ z. is_among z ys) same) ∙ none) in omega arith
    by rest false e = let here : weight (y == x) ≡ 0 = ap weight e in omega arith

among-left : (x : ℕ) (xs ys : List ℕ) → is_among x xs ≡ true → is_among x (xs ++ ys) ≡ true
among-left x [] ys is = absurd cc
among-left x (z ∷ xs) ys is =
    elim (or_cases (z == x) (is_among x xs) is) [
      | inl here ↦ or_left (z == x) (is_among x (xs ++ ys)) here
      | inr later ↦ or_right (z == x) (is_among x (xs ++ ys)) (among-left x xs ys later)
    ]

distinct-left : (xs ys : List ℕ) → is_distinct (xs ++ ys) ≡ true → is_distinct xs ≡ true
distinct-left [] ys distinct = refl
distinct-left (x ∷ xs) ys distinct = by (distinct-left xs ys (grind (arith, distinct))) (is_among x xs) refl
  where
    by : is_distinct xs ≡ true → (t : Bool) → is_among x xs ≡ t → is_distinct (x ∷ xs) ≡ true
    by rest true e = let more = among-left x xs ys e in grind (arith, distinct, more)
    by rest false e = grind (arith, e, rest)

distinct-right : (xs ys : List ℕ) → is_distinct (xs ++ ys) ≡ true → is_distinct ys ≡ true
distinct-right [] ys distinct = distinct
distinct-right (x ∷ xs) ys distinct = distinct-right xs ys (grind (arith, distinct))

-- ---- the ids that events create

distinct-at : (events : List Event) (n : ℕ) (e : Event) → slice_get events n ≡ Some e → is_distinct (named_ids events) ≡ true → is_distinct (event_ids e) ≡ true
distinct-at [] n e at distinct = absurd cc
distinct-at (y ∷ ys) zero e at distinct =
    let found : Some y ≡ Some e = at in let is : y ≡ e = cc in
    subst (λ z. is_distinct (event_ids z) ≡ true) is (distinct-left (event_ids y) (named_ids ys) distinct)
distinct-at (y ∷ ys) (suc n) e at distinct = distinct-at ys n e at (distinct-right (event_ids y) (named_ids ys) distinct)

-- an event creates what the events before it don't
named-at : (x n : ℕ) (events : List Event) (e : Event) → slice_get events n ≡ Some e → times x (named_ids (take n events)) + times x (event_ids e) ≤ times x (named_ids events)
named-at x n [] e at = absurd cc
named-at x zero (y ∷ ys) e at =
    let found : Some y ≡ Some e = at in let is : y ≡ e = cc in
    let same : times x (event_ids y) ≡ times x (event_ids e) = ap (λ z. times x (event_ids z)) is in
    let t = times-append x (event_ids y) (named_ids ys) in omega arith
named-at x (suc n) (y ∷ ys) e at =
    let r = named-at x n ys e at in let t = times-append x (event_ids y) (named_ids ys) in
    let u = times-append x (event_ids y) (named_ids (take n ys)) in omega arith

created-under : (x thread : ℕ) (events : List Event) → created entry_ids x (entries_under thread events) ≡ times x (named_ids events)
created-under x thread [] = refl
created-under x thread (e ∷ es) = let r = created-under x thread es in let t = times-append x (event_ids e) (named_ids es) in omega arith

-- what an entry creates, the log creates
entry-created : (x place : ℕ) (log : List Entry) (e : Entry) → slice_get log place ≡ Some e → 0 < times x (entry_ids e) → 0 < created entry_ids x log
entry-created x place [] e at pos = absurd cc
entry-created x zero (y ∷ log) e at pos = let found : Some y ≡ Some e = at in let is : y ≡ e = cc in let same : times x (entry_ids y) ≡ times x (entry_ids e) = ap (λ z. times x (entry_ids z)) is in omega arith
entry-created x (suc place) (y ∷ log) e at pos = let rest = entry-created x place log e at pos in omega arith

module _ (h h' : Hand Entry) (events : List Event) (drew : AreAmong (named_ids events) h.drawn) (new : AreNew h events) (alone : CreatesAlone entry_ids h') (drawn : h'.drawn ≡ h.drawn) where
  not_taken : (done : ℕ) (event : Event) → slice_get events done ≡ Some event → h'.mine ≡ h.mine ++ entries_under h.thread (take done events) → fault (history h'.seen) event ≡ Some IdTaken → ⊥
  not_taken done event at mine is =
      let t = taken_is_in_log 1 h'.seen event (distinct-at events done event at new.distinct) is in
      let made = entry-created t.id t.place h'.seen t.entry t.stands (among-times t.id (entry_ids t.entry) t.made) in
      let own = among-times t.id (event_ids event) t.among in
      let inside = named-at t.id done events event at in let once = distinct-once (named_ids events) new.distinct t.id in
      let named : 0 < times t.id (named_ids events) = omega arith in
      let before = new.unmade t.id named in
      let under = created-under t.id h.thread (take done events) in
      let sum = total-append (λ e. times t.id (entry_ids e)) h.mine (entries_under h.thread (take done events)) in
      let all = alone t.id (subst (λ l. 0 < times t.id l) (sym drawn) (drew t.id named)) ∙ ap (created entry_ids t.id) mine in omega arith

  pub never_taken : (answer : Result Receipt AppendFault) → Tells h events answer h' → IsNotTaken answer
  never_taken (Ok r) told = tt
  never_taken (Err (append.Refused f at done)) told = λ is.
      let refused = told.3 in not_taken done refused.0 refused.1 told.1.1.grew.mine (refused.2.fault_is ∙ ap Some is)
  never_taken (Err (append.LogFull l wanted done)) told = tt
  never_taken (Err (append.WantMemory done)) told = tt
