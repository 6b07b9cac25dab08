-- What the run gives.
use Rattle.std.proofs.Common.{◌≡◌, ◌≢◌, ℕ, zero, suc, ◌+◌, ◌<◌, ◌≤◌, Bool, true, false, List, [], ◌∷◌, length, map, take, get_or, All, sym, ap, ◌∙◌, subst, arith, inl, inr}
use Rattle.std.specs.Prelude.{MatchBool}
use Rattle.std.specs.List.{list_any}
use Rattle.std.proofs.lemmas.Bool.{or_parts, both_ways}
use Rattle.std.proofs.lemmas.List.{length-map, get_or-map}
use Rattle.std.proofs.lemmas.List.Elements.{All-get_or, All-nil, All-cons}
use mathlib.Core.List.{IsPrefix}
use Rattle.atomic_table.specs.Seated.{TableId}
use Rattle.gfx_types.specs.declared.names.Fault.{Fault}
use Rattle.gfx_model.specs.History.{is_valid}
use Rattle.gfx_script_model.specs.Runs.{Entry, Safe, calls_of, history, lines_in}
use Rattle.gfx_script_model.specs.Scripts.{Part}
use Rattle.gfx_seats.specs.declared.stage.Stage.TheVariants.{Idle}
use Rattle.gfx_seats.specs.Desk.{Closes}
use Rattle.gfx_seats.specs.Entries.{times, total, entries_of, created}
use Rattle.gfx_seats.specs.Hand.{drawn_times}
use Rattle.gfx_seats.specs.Seat.{desk_of}
use Rattle.gfx_seats.proofs.Hands.{once-le}
use Rattle.gfx_capture.specs.Entry.{entry_thread, entry_ids, entries_under, named_ids}
use Rattle.gfx_capture.specs.Log.{Logged}
use Rattle.gfx_run_law.specs.Pieces.{ArePhases}
use Rattle.gfx_run_law.specs.Halted.{DoneOrHeld}
use Rattle.gfx_run_law.proofs.Ends.{whole_matches, halted-at, safe_goes_on}
use Rattle.gfx_recorder.specs.declared.end.End.{End}
use Rattle.gfx_recorder.specs.declared.end.End.TheVariants as ended
use Rattle.gfx_recorder.specs.declared.outcome.Outcome.{Outcome}
use Rattle.gfx_recorder.specs.declared.outcome.Outcome.TheVariants.{Done, Refused, LogFull, WantMemory}
use Rattle.gfx_recorder.specs.declared.worker.Worker.{Worker}
use Rattle.gfx_recorder.specs.Ends.{is_all, is_memory, EndsAt}
use Rattle.gfx_recorder.specs.Ids.{id_in}
use Rattle.gfx_recorder.specs.Outcomes.{IsRefusedAt, IsFullAt, IsOutcome, IsDone, IsFirstEnd, outcome_of}
use Rattle.gfx_recorder.specs.Progress.{MadeOfDrawn, Reached, Halfway}
use Rattle.gfx_recorder.specs.Work.{hand_of}
use Rattle.gfx_recorder.proofs.Closing.{Closed, whole, partly, held-by, faulty-here, full-here, refused-faulty, refused-full, done-or-held, mid}
use Rattle.gfx_recorder.proofs.Counts.{created-drawn}
use Rattle.gfx_recorder.proofs.Phases.{created-append, created-first, created-under, ends-all}

module _ {A : Type 0} (p : A → Bool) where
  pub none-true : (l : List A) → list_any p l ≡ false → (i : ℕ) (d : A) → i < length l → p (get_or l i d) ≡ false
  none-true [] h i d less = absurd (omega arith)
  none-true (x ∷ l) h zero d less = (or_parts (p x) (list_any p l) h).0
  none-true (x ∷ l) h (suc i) d less = none-true l (or_parts (p x) (list_any p l) h).1 i d (omega arith)

module _ {A B : Type 0} (f : A → B) (P : B → Type 0) where
  pub all-mapped : (l : List A) → ((i : ℕ) (d : A) → i < length l → P (f (get_or l i d))) → All P (map f l)
  all-mapped [] h = All-nil P
  all-mapped (x ∷ l) h = All-cons P (f x) (map f l) (h 0 x (omega arith)) (all-mapped l (λ i d less. h (suc i) d (omega arith)))

  pub mapped-at : (l : List A) (i : ℕ) (d : A) → i < length l → All P (map f l) → P (f (get_or l i d))
  mapped-at l i d less all = subst P (get_or-map f l i d (f d) less) (All-get_or P (map f l) i (f d) (let a = length-map l f in omega arith) all)

total-at : {A : Type 0} (f : A → ℕ) (l : List A) (i : ℕ) (d : A) → i < length l → f (get_or l i d) ≤ total f l
total-at f [] i d less = absurd (omega arith)
total-at f (x ∷ l) zero d less = omega arith
total-at f (x ∷ l) (suc i) d less = let r = total-at f l i d (omega arith) in omega arith

-- ---- the log that closing gives

module _ (n : ℕ) (log : Logged) (ws : List Worker) (len : length ws ≡ n) (threads : (i : ℕ) (d : Worker) → i < n → (hand_of (get_or ws i d)).thread ≡ i)
    (drew : (i : ℕ) (d : Worker) → i < n → MadeOfDrawn (hand_of (get_or ws i d))) (e : Closes (λ l. l.entries) entry_thread (λ l. l.minor) (map hand_of ws) log) where
  within : (i : ℕ) → i < n → i < length ws
  within i less = omega arith

  foreign-to : (t : ℕ) → n ≤ t → entries_of entry_thread t log.entries ≡ []
  foreign-to t above = e.foreign t (all-mapped hand_of (λ h. h.thread ≢ t) ws (λ i d less. λ same. let a = threads i d (omega arith) in omega arith))

  created-few : (x : ℕ) → created entry_ids x log.entries ≤ total (drawn_times x) (map hand_of ws)
  created-few x = created-drawn x log.entries (map hand_of ws) e.foreign e.mine (all-mapped hand_of MadeOfDrawn ws (λ i d less. drew i d (omega arith)))

  pub closed : is_valid (history log.entries) ≡ true → Closed n log.entries ws
  closed valid = record {
    valid = valid;
    seen = λ i d less. mapped-at hand_of (λ h. IsPrefix h.seen log.entries) ws i d (within i less) e.seen;
    mine = λ i d less. ap (map (λ (e : Entry). e.event)) (mapped-at hand_of (λ h. entries_of entry_thread h.thread log.entries ≡ h.mine) ws i d (within i less) e.mine);
    foreign = λ t above. ap (map (λ (e : Entry). e.event)) (foreign-to t above);
    from_one = λ i d less.
        let none : total (drawn_times 0) (map hand_of ws) ≡ 0 = (e.drawn 0).below (omega arith) in
        let same : get_or (map hand_of ws) i (hand_of d) ≡ hand_of (get_or ws i d) = get_or-map hand_of ws i d (hand_of d) (within i less) in
        let a = total-at (drawn_times 0) (map hand_of ws) i (hand_of d) (let l = length-map ws hand_of in omega arith) in
        let b : times 0 (get_or (map hand_of ws) i (hand_of d)).drawn ≡ times 0 (hand_of (get_or ws i d)).drawn = ap (drawn_times 0) same in omega arith;
    zero_free = let none : total (drawn_times 0) (map hand_of ws) ≡ 0 = (e.drawn 0).below (omega arith) in let a = created-few 0 in omega arith;
    once = λ x. let a = created-few x in let b = once-le 1 e.next x (total (drawn_times x) (map hand_of ws)) (e.drawn x) in omega arith;
  }

  pub minor-is : (m : ℕ) (d : Worker) → 0 < n → (hand_of (get_or ws 0 d)).kind ≡ m → log.minor ≡ m
  minor-is m d pos kind = mapped-at hand_of (λ h. log.minor ≡ h.kind) ws 0 d (within 0 pos) e.kind ∙ kind

-- ---- a run that ended

module _ (m : ℕ) (desk : TableId) (n : ℕ) (phases : List (List Part)) (table : List ℕ) (ws : List Worker) where
  abbrev Ended : Bool → Type 0
  Ended b = MatchBool b (Reached m desk n phases table ws) (Halfway m desk n phases table ws)

  pub long : (b : Bool) → Ended b → length ws ≡ n
  long true r = r.len
  long false h = h.len

  pub desks : (b : Bool) → Ended b → (i : ℕ) (d : Worker) → i < n → desk_of (get_or ws i d).pass ≡ desk
  desks true r i d less = (r.at i d less).desk_is
  desks false h i d less = let a = h.at i d less in a.ran.desk_is ∙ a.desk_is

  pub threads-are : (b : Bool) → Ended b → (i : ℕ) (d : Worker) → i < n → (hand_of (get_or ws i d)).thread ≡ i
  threads-are true r i d less = (r.at i d less).thread
  threads-are false h i d less = let a = h.at i d less in a.ran.keeps.thread ∙ a.thread

  pub kinds-are : (b : Bool) → Ended b → (i : ℕ) (d : Worker) → i < n → (hand_of (get_or ws i d)).kind ≡ m
  kinds-are true r i d less = (r.at i d less).kind
  kinds-are false h i d less = let a = h.at i d less in a.ran.keeps.kind ∙ a.kind

  pub idle : (b : Bool) → Ended b → (i : ℕ) (d : Worker) → i < n → (hand_of (get_or ws i d)).stage ≡ Idle
  idle true r i d less = (r.at i d less).idle
  idle false h i d less = (h.at i d less).ran.keeps.stage

  pub made-of-drawn : (b : Bool) → Ended b → (i : ℕ) (d : Worker) → i < n → MadeOfDrawn (hand_of (get_or ws i d))
  made-of-drawn true r i d less = (r.at i d less).drew
  made-of-drawn false h i d less = λ x.
      let a = h.at i d less in let calls = calls_of (id_in table) (take (get_or ws i d).done (lines_in i h.phase)) in
      let mine : created entry_ids x (hand_of (get_or ws i d)).mine ≡ created entry_ids x (hand_of a.start).mine + times x (named_ids calls) =
      ap (created entry_ids x) a.ran.mine ∙ (created-append x (hand_of a.start).mine (entries_under (hand_of a.start).thread calls)
      ∙ ap (λ k. created entry_ids x (hand_of a.start).mine + k) (created-under x (hand_of a.start).thread calls)) in
      let drawn : times x (hand_of (get_or ws i d)).drawn ≡ times x (hand_of a.start).drawn = ap (times x) a.ran.keeps.drawn in
      let first = created-first (id_in table) (lines_in i h.phase) (get_or ws i d).done x in let all = a.drew x in omega arith

  -- ---- with the closed log

  module _ (log : Logged) (d₀ : Worker) (apart : ArePhases n phases) (pos : 0 < n) (minor : log.minor ≡ m) (c : Closed n log.entries ws) where
    matched : Reached m desk n phases table ws → IsOutcome m phases (Done log)
    matched r = (minor, whole_matches m n (id_in table) phases log.entries apart (whole m desk n phases table ws log.entries d₀ r c pos), c.valid)

    module _ (h : Halfway m desk n phases table ws) (enough : (i : ℕ) → i < n → is_memory (get_or ws i d₀).end ≡ false) where
      each : (t : ℕ) → t < n → DoneOrHeld m n (id_in table) phases log.entries (partly m desk n phases table ws log.entries d₀ h c pos) t
      each t less = done-or-held m desk n phases table ws log.entries d₀ h c pos t less (get_or ws t d₀).end (enough t less) (h.at t d₀ less).ran.why

      module _ (t : ℕ) (less : t < n) (least : (u : ℕ) (d : Worker) → u < t → is_all (get_or ws u d).end ≡ true) where
        below : (u : ℕ) → u < t → (get_or ws u d₀).done ≡ length (lines_in u h.phase)
        below u smaller = ends-all (id_in table) (lines_in u h.phase) (get_or ws u d₀).done (get_or ws u d₀).end (hand_of (get_or ws u d₀)) (least u d₀ smaller) (h.at u d₀ (omega arith)).ran.why

        refused-at : (line at : ℕ) (fault : Fault) → (get_or ws t d₀).end ≡ ended.Refused line fault at → IsRefusedAt m phases log.entries line fault at
        refused-at line at fault is =
            let y : EndsAt (id_in table) (lines_in t h.phase) (get_or ws t d₀).done (ended.Refused line fault at) (hand_of (get_or ws t d₀)) =
            subst (λ z. EndsAt (id_in table) (lines_in t h.phase) (get_or ws t d₀).done z (hand_of (get_or ws t d₀))) is (h.at t d₀ less).ran.why in
            let faulty = faulty-here m desk n phases table ws log.entries d₀ h c pos t less y.0 y.1 fault y.2.2 in record {
              halted = halted-at m n (id_in table) phases log.entries apart (partly m desk n phases table ws log.entries d₀ h c pos) c.valid each t less below
                  (held-by m desk n phases table ws log.entries d₀ h c pos t less y.0 y.1 (refused-faulty m desk n phases table ws log.entries d₀ h c pos t less y.0 y.1 fault faulty));
              line_is = sym y.2.0;
              at_is = ap length (mid m desk n phases table ws log.entries d₀ h c pos t less).1 ∙ sym y.2.1;
              faulty = faulty;
            }

        full-at : (long wanted : ℕ) → (get_or ws t d₀).end ≡ ended.LogFull long wanted → IsFullAt m phases log.entries long wanted
        full-at long wanted is =
            let y : EndsAt (id_in table) (lines_in t h.phase) (get_or ws t d₀).done (ended.LogFull long wanted) (hand_of (get_or ws t d₀)) =
            subst (λ z. EndsAt (id_in table) (lines_in t h.phase) (get_or ws t d₀).done z (hand_of (get_or ws t d₀))) is (h.at t d₀ less).ran.why in
            let full = full-here m desk n phases table ws log.entries d₀ h c pos t less y.0 y.1 long wanted y.2 in record {
              halted = halted-at m n (id_in table) phases log.entries apart (partly m desk n phases table ws log.entries d₀ h c pos) c.valid each t less below
                  (held-by m desk n phases table ws log.entries d₀ h c pos t less y.0 y.1 (refused-full m desk n phases table ws log.entries d₀ h c pos t less y.0 y.1 long wanted full));
              full = full;
            }

        by-end : (end : End) → (get_or ws t d₀).end ≡ end → is_all end ≡ false → IsOutcome m phases (outcome_of end log)
        by-end ended.All is not-all = absurd cc
        by-end (ended.Refused line fault at) is not-all = (minor, refused-at line at fault is)
        by-end (ended.LogFull long wanted) is not-all = (minor, full-at long wanted is)
        by-end ended.WantMemory is not-all = tt

    pub concluded : (b : Bool) → Ended b → ((i : ℕ) → i < n → is_memory (get_or ws i d₀).end ≡ false) → (end : End) → MatchBool b (is_all end ≡ true) (IsFirstEnd ws end) → IsOutcome m phases (outcome_of end log)
    concluded true r enough ended.All all = matched r
    concluded true r enough (ended.Refused line fault at) all = absurd cc
    concluded true r enough (ended.LogFull long wanted) all = absurd cc
    concluded true r enough ended.WantMemory all = absurd cc
    concluded false h enough end (inl f) = by-end h enough f.0 (let a = h.len in let b = f.1 in omega arith) (λ u d below. f.4 u d below) end (f.2 d₀) f.3
    concluded false h enough end (inr f) = absurd (both_ways (is_all (get_or ws h.some.0 d₀).end) (h.some.2 d₀) (f.1 h.some.0 d₀ (let a = h.some.1 in let b = h.len in omega arith)))

-- a safe script is done, or memory was wanting
pub completes : (m : ℕ) (phases : List (List Part)) (outcome : Outcome) → IsOutcome m phases outcome → Safe m phases → IsDone outcome
completes m phases (Done log) h safe = tt
completes m phases (Refused line fault at log) h safe =
    let x = h.1.halted in safe_goes_on m phases log.entries x.phase x.least x.before safe x.valid x.stop
completes m phases (LogFull long wanted log) h safe =
    let x = h.1.halted in safe_goes_on m phases log.entries x.phase x.least x.before safe x.valid x.stop
completes m phases WantMemory h safe = tt
