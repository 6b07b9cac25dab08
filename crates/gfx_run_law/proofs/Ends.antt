-- What a log in pieces says of the script.
use Rattle.std.proofs.Common.{◌≡◌, inl, inr, ℕ, zero, suc, ◌<◌, ◌≤◌, true, false, List, [], ◌∷◌, ◌++◌, length, take, drop, Option, Some, None, slice_get, refl, sym, ap, ◌∙◌, subst, arith, append_assoc, append-nil, length-append}
use Rattle.std.specs.Prelude.{IsSome}
use Rattle.std.specs.List.{AllByRecursion}
use Rattle.std.proofs.lemmas.Bool.{both_ways, cases_lt, and_parts}
use Rattle.std.proofs.lemmas.List.{length-map, length-take-le}
use Rattle.gfx_types.specs.declared.names.Fault.{Fault}
use Rattle.gfx_model.specs.Events.{Event}
use Rattle.gfx_model.specs.History.{fault, is_valid}
use Rattle.gfx_script_model.specs.Ids.{map_ids, uses_of}
use Rattle.gfx_script_model.specs.Scripts.{Line, Part, has_thread}
use Rattle.gfx_script_model.specs.Runs.{Entry, Run, Stopped, ArePieces, history, history_onto, events_of, calls_of, lines_in, lines_of_phase, next_line}
use Rattle.gfx_run_law.specs.Pieces.{joined, ArePhases, IsPartly}
use Rattle.gfx_run_law.specs.Halted.{IsHeld, DoneOrHeld, IsHalted, WholeMatches, SafeGoesOn}
use Rattle.gfx_run_law.proofs.Ids.{ids-of-front}
use Rattle.gfx_run_law.proofs.Pieces.{HasFirst, AllWhole, events-append, nil-left, nil-right, prefix-calls, taken-front, no-part, whole-for-all, are-pieces, are-all, whole-long, joined-more, last-is, phase-is}

pub whole_matches : WholeMatches
whole_matches m n ids phases log apart w = record {
  ids = ids;
  pieces = w.pieces;
  cut = w.cut;
  count = whole-long n ids phases w.pieces w.whole;
  are_ids = w.are_ids;
  are = are-all n ids phases w.pieces apart
      (whole-for-all n ids phases [] w.pieces [] (subst (ArePhases n) (sym (append-nil phases)) apart) w.whole
      (λ t above. ap (events_of t) (append-nil (joined w.pieces) ∙ sym w.cut) ∙ w.foreign t above));
}

-- ---- a prefix of a valid log is valid

history-append : (l k : List Entry) (h : List Event) → history_onto (l ++ k) h ≡ history_onto k (history_onto l h)
history-append [] k h = refl
history-append (e ∷ l) k h = history-append l k (e.event ∷ h)

valid-before : (k : List Entry) (h : List Event) → is_valid (history_onto k h) ≡ true → is_valid h ≡ true
valid-before [] h v = v
valid-before (e ∷ k) h v = (and_parts (is_valid h) _ (valid-before k (e.event ∷ h) v)).0

pub valid-front : (log front rest : List Entry) → log ≡ front ++ rest → is_valid (history log) ≡ true → is_valid (history front) ≡ true
valid-front log front rest cut v = valid-before rest (history front) (ap is_valid (sym (ap history cut ∙ history-append front rest [])) ∙ v)

-- a fault that is none is none
no-fault : (o : Option Fault) → o ≡ None → IsSome o → ⊥
no-fault o e h = both_ways false refl (subst (λ (z : Option Fault). IsSome z) e h)

pub safe_goes_on : SafeGoesOn
safe_goes_on m phases log q t before safe valid s =
    let v = valid-front log before s.rest s.is_prefix valid in
    let r = safe before q t s.run_before s.line s.event v s.next_before s.is_call in
    elim s.refused [ inl more ↦ let fits = r.1 in omega arith | inr bad ↦ no-fault (fault (history before) s.event) r.0 bad.1 ]

-- ---- a log that ends in a phase

no-get : {A : Type 0} (k : ℕ) → slice_get {X = A} [] k ≡ None
no-get zero = refl
no-get (suc k) = refl

get-end : {A : Type 0} (l : List A) → slice_get l (length l) ≡ None
get-end [] = refl
get-end (x ∷ l) = get-end l

none-some : {A : Type 0} (x : A) (o : Option A) → o ≡ None → o ≡ Some x → ⊥
none-some x o a b = let e : None ≡ Some x = sym a ∙ b in cc

pub known-by-itself : (ids : ℕ → ℕ) (ks : List ℕ) → AllByRecursion (λ k. ids k ≡ ids k) ks
known-by-itself ids [] = tt
known-by-itself ids (k ∷ ks) = (refl, known-by-itself ids ks)

module _ (m n : ℕ) (ids : ℕ → ℕ) (phases : List (List Part)) (log : List Entry) (apart : ArePhases n phases) (p : IsPartly m n ids phases log) where
  abbrev pub lines : ℕ → List Line
  lines t = lines_in t p.phase

  abbrev pub start : List Entry
  start = joined p.pieces

  abbrev pub phase-number : ℕ
  phase-number = suc (length p.before)

  above-none : (t : ℕ) → n ≤ t → events_of t p.piece ≡ []
  above-none t above = nil-right (events_of t start) (events_of t p.piece) (sym (events-append t start p.piece) ∙ (ap (events_of t) (sym p.cut) ∙ p.foreign t above))

  pub all-whole : AllWhole ids p.before p.pieces
  all-whole = whole-for-all n ids p.before (p.phase ∷ p.rest) p.pieces p.piece (subst (ArePhases n) p.are apart) p.whole (λ t above. ap (events_of t) (sym p.cut) ∙ p.foreign t above)

  -- a prefix of the piece has first lines of each thread
  pub firsts : (front rest : List Entry) → p.piece ≡ front ++ rest → HasFirst ids p.phase front
  firsts front rest cut t = elim (cases_lt t n) [
    | inl less ↦ prefix-calls ids (lines t) (events_of t front) (events_of t rest ++ calls_of ids (drop (p.done t) (lines t)))
        (taken-front ids (lines t) (p.done t) (events_of t front) (events_of t rest) (sym (events-append t front rest) ∙ (ap (events_of t) (sym cut) ∙ p.calls t less)))
    | inr above ↦ nothing (nil-left (events_of t front) (events_of t rest) (sym (events-append t front rest) ∙ (ap (events_of t) (sym cut) ∙ above-none t above)))
  ]
    where
      nothing : events_of t front ≡ [] → events_of t front ≡ calls_of ids (take (length (events_of t front)) (lines t))
      nothing e = e ∙ sym (ap (λ (z : List Event). calls_of ids (take (length z) (lines t))) e)

  -- a prefix of the log that reaches into the last piece is a run
  abbrev pub run-of : (l front rest : List Entry) → l ≡ start ++ front → p.piece ≡ front ++ rest → Run m false phases l phase-number
  run-of l front rest is cut = record {
    ids = ids;
    pieces = p.pieces ++ front ∷ [];
    cut = is ∙ sym (joined-more p.pieces front);
    count = let a = length-append p.pieces (front ∷ []) in let b = whole-long n ids p.before p.pieces p.whole in omega arith;
    are_ids = ids-of-front m ids log l rest (p.cut ∙ (ap (λ z. start ++ z) cut ∙ (sym (append_assoc start front rest) ∙ ap (λ z. z ++ rest) (sym is)))) p.are_ids;
    are = subst (λ z. ArePieces false ids z (p.pieces ++ front ∷ [])) (sym p.are)
        (are-pieces n ids p.before p.phase p.rest p.pieces front (subst (ArePhases n) p.are apart) all-whole (firsts front rest cut));
  }

  pub next-of : (l front rest : List Entry) (is : l ≡ start ++ front) (cut : p.piece ≡ front ++ rest) (t : ℕ) → next_line (run-of l front rest is cut) t ≡ slice_get (lines t) (length (events_of t front))
  next-of l front rest is cut t = λ j. slice_get (phase-lines j) (length (events_of t (last-is p.pieces front j)))
    where
      phase-lines : lines_of_phase phases phase-number t ≡ lines t
      phase-lines = ap (λ z. lines_of_phase z phase-number t) p.are ∙ phase-is p.before p.phase p.rest t

  abbrev pub whole-run : Run m false phases log phase-number
  whole-run = run-of log p.piece [] p.cut (sym (append-nil p.piece))

  pub done-is : (t : ℕ) → t < n → length (events_of t p.piece) ≡ p.done t
  done-is t less =
      ap length (p.calls t less) ∙ (length-map (take (p.done t) (lines t)) (λ (l : Line). map_ids ids l.event) ∙ length-take-le (p.done t) (lines t) (p.within t less))

  pub next-at : (t : ℕ) → t < n → next_line whole-run t ≡ slice_get (lines t) (p.done t)
  next-at t less = next-of log p.piece [] p.cut (sym (append-nil p.piece)) t ∙ ap (slice_get (lines t)) (done-is t less)

  -- a thread that did all has no next line
  pub nothing-left : (t : ℕ) → t < n → p.done t ≡ length (lines t) → next_line whole-run t ≡ None
  nothing-left t less all = next-at t less ∙ (ap (slice_get (lines t)) all ∙ get-end (lines t))

  nothing-above : (t : ℕ) → n ≤ t → next_line whole-run t ≡ None
  nothing-above t above = next-of log p.piece [] p.cut (sym (append-nil p.piece)) t ∙ (ap (λ ls. slice_get ls (length (events_of t p.piece))) (no-part t p.phase (none-of p.before p.phase p.rest (subst (ArePhases n) p.are apart) t above)) ∙ no-get (length (events_of t p.piece)))
    where
      none-of : (before : List (List Part)) (phase : List Part) (rest : List (List Part)) → ArePhases n (before ++ phase ∷ rest) → (t : ℕ) → n ≤ t → has_thread t phase ≡ false
      none-of [] phase rest a t above = a.1 t above
      none-of (b ∷ bs) phase rest a t above = none-of bs phase rest a.2 t above

  -- a thread that is held is stopped
  abbrev pub stop-of : (t : ℕ) → t < n → (h : IsHeld m ids start p.piece t (lines t) (p.done t)) → Stopped m phases log phase-number t (start ++ h.front)
  stop-of t less h = record {
    run = whole-run;
    run_before = run-of (start ++ h.front) h.front h.rest refl h.cut;
    rest = h.rest;
    is_prefix = p.cut ∙ (ap (λ z. start ++ z) h.cut ∙ sym (append_assoc start h.front h.rest));
    line = h.line;
    next = next-at t less ∙ h.next;
    next_before = next-of (start ++ h.front) h.front h.rest refl h.cut t ∙ (ap (slice_get (lines t)) (ap length h.own ∙ done-is t less) ∙ h.next);
    event = map_ids ids h.line.event;
    is_call = record {
      ids = ids;
      none = p.are_ids.none;
      known = known-by-itself ids (uses_of m h.line.event);
      positive = h.new_ids.positive;
      distinct = h.new_ids.distinct;
      unused = h.new_ids.unused;
      same = refl;
    };
    refused = h.refused;
  }

  -- each thread with a line left is stopped, where each thread did all or is held
  pub stopped-at : ((t : ℕ) → t < n → DoneOrHeld m n ids phases log p t) → (t : ℕ) (line : Line) → next_line whole-run t ≡ Some line → (before : List Entry) × Stopped m phases log phase-number t before
  stopped-at each t line next = elim (cases_lt t n) [
    | inl less ↦ by less (each t less)
    | inr above ↦ absurd (none-some line (next_line whole-run t) (nothing-above t above) next)
  ]
    where
      by : t < n → DoneOrHeld m n ids phases log p t → (before : List Entry) × Stopped m phases log phase-number t before
      by less (inl all) = absurd (none-some line (next_line whole-run t) (nothing-left t less all) next)
      by less (inr held) = (start ++ held.front, stop-of t less held)

  -- the least thread that is held decides
  abbrev pub halted-at : is_valid (history log) ≡ true → ((t : ℕ) → t < n → DoneOrHeld m n ids phases log p t) → (t : ℕ) → (less : t < n)
      → ((u : ℕ) → u < t → p.done u ≡ length (lines u)) → IsHeld m ids start p.piece t (lines t) (p.done t) → IsHalted m phases log
  halted-at valid each t less below held = record {
    valid = valid;
    phase = phase-number;
    run = whole-run;
    stopped = λ u line next. stopped-at each u line next;
    least = t;
    before = start ++ held.front;
    stop = stop-of t less held;
    same = refl;
    none_below = λ u smaller. nothing-left u (omega arith) (below u smaller);
  }
