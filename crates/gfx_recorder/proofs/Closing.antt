-- What the closed log says of the script.
use Rattle.std.proofs.Common.{◌≡◌, ◌⊎◌, inl, inr, ℕ, zero, suc, ◌+◌, ◌<◌, ◌≤◌, true, false, not, List, [], ◌∷◌, ◌++◌, map, length, take, get_or, Option, Some, slice_get, sym, refl, ap, ◌∙◌, subst, arith, append_assoc, append-nil}
use Rattle.std.specs.Prelude.{IsSome}
use Rattle.std.proofs.lemmas.Bool.{cases_lt}
use Rattle.std.proofs.lemmas.List.{append_cancel_left, map-append, take_more}
use mathlib.Core.List.{IsPrefix}
use Rattle.atomic_table.specs.Seated.{TableId}
use Rattle.gfx_types.specs.declared.names.Fault.{Fault}
use Rattle.gfx_model.specs.Events.{Event}
use Rattle.gfx_model.specs.History.{view, is_valid}
use Rattle.gfx_script_model.specs.Ids.{map_ids, defines_of}
use Rattle.gfx_script_model.specs.Runs.{Entry, IsRefused, history, events_of, calls_of, lines_in}
use Rattle.gfx_script_model.specs.Scripts.{Line, Part}
use Rattle.gfx_seats.specs.Entries.{times, created}
use Rattle.gfx_seats.proofs.Totals.{times-append}
use Rattle.gfx_taken_law.proofs.TakenLaws.{creates_alike}
use Rattle.gfx_capture.specs.Append.{IsFaulty, IsFull}
use Rattle.gfx_capture.specs.Entry.{entry_ids, event_ids, named_ids, entries_under}
use Rattle.gfx_run_law.specs.Pieces.{joined, IsWhole, IsPartly}
use Rattle.gfx_run_law.specs.Halted.{AreNewIds, IsHeld, DoneOrHeld}
use Rattle.gfx_run_law.proofs.Ids.{creates, all-positive, all-distinct, all-counted, unused}
use Rattle.gfx_run_law.proofs.Pieces.{events-append, nobody, nil-right}
use Rattle.gfx_recorder.specs.declared.end.End.{End}
use Rattle.gfx_recorder.specs.declared.end.End.TheVariants as ended
use Rattle.gfx_recorder.specs.declared.worker.Worker.{Worker}
use Rattle.gfx_recorder.specs.Ends.{EndsAt, is_memory}
use Rattle.gfx_recorder.specs.Ids.{id_in}
use Rattle.gfx_recorder.specs.Work.{hand_of}
use Rattle.gfx_recorder.specs.Progress.{Reached, Halfway}
use Rattle.gfx_recorder.proofs.Counts.{created-in, ids-by-counts}
use Rattle.gfx_recorder.proofs.Going.{ids-append, prefix-through}
use Rattle.gfx_recorder.proofs.Phases.{created-append, created-first, created-under, events-of-both, own-events}

-- what n workers know of the closed log
pub record Closed (n : ℕ) (log : List Entry) (ws : List Worker) : Type 0 where
  pub valid : is_valid (history log) ≡ true
  pub seen : (i : ℕ) (d : Worker) → i < n → IsPrefix (hand_of (get_or ws i d)).seen log
  pub mine : (i : ℕ) (d : Worker) → i < n → events_of (hand_of (get_or ws i d)).thread log ≡ map (λ (e : Entry). e.event) (hand_of (get_or ws i d)).mine
  pub foreign : (t : ℕ) → n ≤ t → events_of t log ≡ []
  pub from_one : (i : ℕ) (d : Worker) → i < n → times 0 (hand_of (get_or ws i d)).drawn ≡ 0
  pub zero_free : created entry_ids 0 log ≡ 0
  pub once : (x : ℕ) → created entry_ids x log ≤ 1

-- all phases are done
pub whole : (m : ℕ) (desk : TableId) (n : ℕ) (phases : List (List Part)) (table : List ℕ) (ws : List Worker) (log : List Entry) (d₀ : Worker)
    → Reached m desk n phases table ws → Closed n log ws → 0 < n → IsWhole m n (id_in table) phases log
whole m desk n phases table ws log d₀ r c pos = record {
  pieces = r.pieces;
  whole = r.whole;
  cut = same;
  foreign = c.foreign;
  are_ids = ids-by-counts m (id_in table) log r.none c.zero_free c.once;
}
  where
    pre : IsPrefix (joined r.pieces) log
    pre = subst (λ l. IsPrefix l log) (r.at 0 d₀ pos).seen (c.seen 0 d₀ pos)

    rest-empty : (t : ℕ) → (t < n) ⊎ (n ≤ t) → events_of t pre.0 ≡ []
    rest-empty t (inl less) =
        let a = r.at t d₀ less in
        append_cancel_left (events_of t (joined r.pieces)) (events_of t pre.0) []
        (sym (events-append t (joined r.pieces) pre.0) ∙ (ap (events_of t) pre.1
        ∙ (ap (λ u. events_of u log) (sym a.thread) ∙ (c.mine t d₀ less
        ∙ (sym (own-events (get_or ws t d₀) t (joined r.pieces) a.thread a.seen) ∙ sym (append-nil (events_of t (joined r.pieces))))))))
    rest-empty t (inr above) = nil-right (events_of t (joined r.pieces)) (events_of t pre.0) (sym (events-append t (joined r.pieces) pre.0) ∙ (ap (events_of t) pre.1 ∙ c.foreign t above))

    same : log ≡ joined r.pieces
    same = sym pre.1 ∙ (ap (λ l. joined r.pieces ++ l) (nobody pre.0 (λ t. rest-empty t (cases_lt t n))) ∙ append-nil (joined r.pieces))

module _ (m : ℕ) (desk : TableId) (n : ℕ) (phases : List (List Part)) (table : List ℕ) (ws : List Worker) (log : List Entry) (d₀ : Worker) (h : Halfway m desk n phases table ws) (c : Closed n log ws) (pos : 0 < n) where
  abbrev pub lines : ℕ → List Line
  lines t = lines_in t h.phase

  abbrev pub start : List Entry
  start = joined h.pieces

  abbrev pub worker : ℕ → Worker
  worker t = get_or ws t d₀

  pub thread-is : (t : ℕ) → t < n → (hand_of (worker t)).thread ≡ t
  thread-is t less = let a = h.at t d₀ less in a.ran.keeps.thread ∙ a.thread

  pub kind-is : (t : ℕ) → t < n → (hand_of (worker t)).kind ≡ m
  kind-is t less = let a = h.at t d₀ less in a.ran.keeps.kind ∙ a.kind

  pub began : (t : ℕ) → t < n → IsPrefix start (hand_of (worker t)).seen
  began t less = let a = h.at t d₀ less in subst (λ l. IsPrefix l (hand_of (worker t)).seen) a.seen a.ran.keeps.before

  pub pre : IsPrefix start log
  pre = prefix-through start (hand_of (worker 0)).seen log (began 0 pos) (c.seen 0 d₀ pos)

  abbrev pub piece : List Entry
  piece = pre.0

  -- what a worker made, as events
  pub made-is : (t : ℕ) → t < n → map (λ (e : Entry). e.event) (hand_of (worker t)).mine ≡ events_of t start ++ calls_of (id_in table) (take (worker t).done (lines t))
  made-is t less =
      let a = h.at t d₀ less in
      ap (map (λ (e : Entry). e.event)) a.ran.mine
      ∙ (events-of-both (hand_of a.start).mine (hand_of a.start).thread (calls_of (id_in table) (take (worker t).done (lines t)))
      ∙ ap (λ l. l ++ calls_of (id_in table) (take (worker t).done (lines t))) (sym (own-events a.start t start a.thread a.seen)))

  pub in-log : (t : ℕ) → t < n → events_of t log ≡ map (λ (e : Entry). e.event) (hand_of (worker t)).mine
  in-log t less = ap (λ u. events_of u log) (sym (thread-is t less)) ∙ c.mine t d₀ less

  pub piece-of : (t : ℕ) → t < n → events_of t piece ≡ calls_of (id_in table) (take (worker t).done (lines t))
  piece-of t less = append_cancel_left (events_of t start) (events_of t piece) (calls_of (id_in table) (take (worker t).done (lines t)))
      (sym (events-append t start piece) ∙ (ap (events_of t) pre.1 ∙ (in-log t less ∙ made-is t less)))

  abbrev pub partly : IsPartly m n (id_in table) phases log
  partly = record {
    before = h.before;
    phase = h.phase;
    rest = h.rest;
    are = h.are;
    pieces = h.pieces;
    whole = h.whole;
    piece = piece;
    cut = sym pre.1;
    done = λ t. (worker t).done;
    within = λ t less. (h.at t d₀ less).ran.within;
    calls = piece-of;
    foreign = c.foreign;
    are_ids = ids-by-counts m (id_in table) log h.none c.zero_free c.once;
  }

  module _ (t : ℕ) (less : t < n) where
    pub mid : IsPrefix start (hand_of (worker t)).seen
    mid = began t less

    pub after : IsPrefix (hand_of (worker t)).seen log
    after = c.seen t d₀ less

    pub in-piece : piece ≡ mid.0 ++ after.0
    in-piece = append_cancel_left start piece (mid.0 ++ after.0) (pre.1 ∙ (sym after.1 ∙ (ap (λ z. z ++ after.0) (sym mid.1) ∙ append_assoc start mid.0 after.0)))

    -- all that it made is in what it had seen
    pub same-own : events_of t mid.0 ≡ events_of t piece
    same-own = append_cancel_left (events_of t start) (events_of t mid.0) (events_of t piece)
        (sym (events-append t start mid.0) ∙ (ap (events_of t) mid.1 ∙ (own-events (worker t) t (hand_of (worker t)).seen (thread-is t less) refl
        ∙ (sym (in-log t less) ∙ (ap (events_of t) (sym pre.1) ∙ events-append t start piece)))))

    -- ---- the next call

    module _ (line : Line) (next : slice_get (lines t) (worker t).done ≡ Some line) where
      abbrev pub event : Event
      event = map_ids (id_in table) line.event

      -- what was made and the next call create no more than was drawn
      pub room : (x : ℕ) → created entry_ids x (hand_of (worker t)).mine + times x (event_ids event) ≤ times x (hand_of (worker t)).drawn
      room x =
          let a = h.at t d₀ less in let done = (worker t).done in
          let at = place-of (lines t) done next in
          let more : calls_of (id_in table) (take (done + 1) (lines t)) ≡ calls_of (id_in table) (take done (lines t)) ++ event ∷ [] =
          ap (calls_of (id_in table)) (take_more (lines t) done line at.0 ∙ ap (λ l. take done (lines t) ++ l ∷ []) at.1) ∙ map-append (λ l. map_ids (id_in table) l.event) (take done (lines t)) (line ∷ []) in
          let both : times x (named_ids (calls_of (id_in table) (take (done + 1) (lines t)))) ≡ times x (named_ids (calls_of (id_in table) (take done (lines t)))) + times x (named_ids (event ∷ [])) =
          ap (times x) (ap named_ids more ∙ ids-append (calls_of (id_in table) (take done (lines t))) (event ∷ [])) ∙ times-append x (named_ids (calls_of (id_in table) (take done (lines t)))) (named_ids (event ∷ [])) in
          let single : times x (named_ids (event ∷ [])) ≡ times x (event_ids event) = ap (times x) (append-nil (event_ids event)) in
          let mine : created entry_ids x (hand_of (worker t)).mine ≡ created entry_ids x (hand_of a.start).mine + times x (named_ids (calls_of (id_in table) (take done (lines t)))) =
          ap (created entry_ids x) a.ran.mine ∙ (created-append x (hand_of a.start).mine (entries_under (hand_of a.start).thread (calls_of (id_in table) (take done (lines t))))
          ∙ ap (λ k. created entry_ids x (hand_of a.start).mine + k) (created-under x (hand_of a.start).thread (calls_of (id_in table) (take done (lines t))))) in
          let drawn : times x (hand_of (worker t)).drawn ≡ times x (hand_of a.start).drawn = ap (times x) a.ran.keeps.drawn in
          let first = created-first (id_in table) (lines t) (done + 1) x in let all = a.drew x in omega arith
        where
          place-of : (ls : List Line) (k : ℕ) → slice_get ls k ≡ Some line → (k < length ls) × (get_or ls k line ≡ line)
          place-of [] zero is = absurd cc
          place-of [] (suc k) is = absurd cc
          place-of (l ∷ ls) zero is = let found : Some l ≡ Some line = is in let same : l ≡ line = cc in (omega arith, same)
          place-of (l ∷ ls) (suc k) is = let r = place-of ls k is in ((let q = r.0 in omega arith), r.1)

      pub drawn-once : (x : ℕ) → times x (hand_of (worker t)).drawn ≤ 1
      drawn-once x = let a = h.at t d₀ less in subst (λ l. times x l ≤ 1) (sym a.ran.keeps.drawn) (a.once x)

      pub same-ids : (x : ℕ) → times x (defines_of m event) ≡ times x (event_ids event)
      same-ids x = ap (times x) (creates_alike m 1 event)

      pub new-ids : AreNewIds m (start ++ mid.0) (defines_of m event)
      new-ids = record {
        positive = all-positive (defines_of m event) (let a = same-ids 0 in let b = room 0 in let e = c.from_one t d₀ less in omega arith);
        distinct = all-distinct (defines_of m event) (λ x. let a = same-ids x in let b = room x in let e = drawn-once x in omega arith);
        unused = all-counted (λ x. not ((view (history (start ++ mid.0))).used x)) (defines_of m event) (λ x made. unused m x (start ++ mid.0) (not-created x made));
      }
        where
          not-created : (x : ℕ) → 0 < times x (defines_of m event) → creates m x (start ++ mid.0) ≡ 0
          not-created x made =
              let a = same-ids x in let b = room x in let e = drawn-once x in
              let none : created entry_ids x (hand_of (worker t)).mine ≡ 0 = omega arith in
              created-in m x (start ++ mid.0) ∙ (ap (created entry_ids x) mid.1 ∙ ((worker t).pass.alone x (omega arith) ∙ none))

      abbrev pub held-by : IsRefused m (start ++ mid.0) t event → IsHeld m (id_in table) start piece t (lines t) (worker t).done
      held-by refused = record {
        line = line;
        next = next;
        front = mid.0;
        rest = after.0;
        cut = in-piece;
        own = same-own;
        new_ids = new-ids;
        refused = refused;
      }

      -- what its pass was told is told of the start of the log
      pub faulty-here : (f : Fault) → IsFaulty (hand_of (worker t)).kind (hand_of (worker t)).thread (hand_of (worker t)).seen event f → IsFaulty m t (start ++ mid.0) event f
      faulty-here f is = subst (λ (z : ℕ × ℕ × List Entry). IsFaulty z.0 z.1 z.2 event f) (λ i. (kind-is t less i, thread-is t less i, sym mid.1 i)) is

      pub full-here : (long wanted : ℕ) → IsFull (hand_of (worker t)).kind (hand_of (worker t)).thread (hand_of (worker t)).seen event long wanted → IsFull m t (start ++ mid.0) event long wanted
      full-here long wanted is = subst (λ (z : ℕ × ℕ × List Entry). IsFull z.0 z.1 z.2 event long wanted) (λ i. (kind-is t less i, thread-is t less i, sym mid.1 i)) is

      pub refused-faulty : (f : Fault) → IsFaulty m t (start ++ mid.0) event f → IsRefused m (start ++ mid.0) t event
      refused-faulty f is = inr (is.fits, subst (λ (o : Option Fault). IsSome o) (sym is.fault_is) refl)

      pub refused-full : (long wanted : ℕ) → IsFull m t (start ++ mid.0) event long wanted → IsRefused m (start ++ mid.0) t event
      refused-full long wanted is = inl (let a = is.length_is in let b = is.wanted_is in let e = is.over in omega arith)

    -- by how it ended
    pub done-or-held : (end : End) → is_memory end ≡ false → EndsAt (id_in table) (lines t) (worker t).done end (hand_of (worker t)) → DoneOrHeld m n (id_in table) phases log partly t
    done-or-held ended.All enough why = inl why
    done-or-held (ended.Refused number f at) enough why = inr (held-by why.0 why.1 (refused-faulty why.0 why.1 f (faulty-here why.0 why.1 f why.2.2)))
    done-or-held (ended.LogFull long wanted) enough why = inr (held-by why.0 why.1 (refused-full why.0 why.1 long wanted (full-here why.0 why.1 long wanted why.2)))
    done-or-held ended.WantMemory enough why = absurd cc
