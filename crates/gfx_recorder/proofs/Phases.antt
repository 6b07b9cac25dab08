-- From one phase to the next.
use Rattle.std.proofs.Common.{◌≡◌, ℕ, zero, suc, ◌+◌, ◌<◌, ◌≤◌, ◌^◌, Bool, true, false, List, [], ◌∷◌, ◌++◌, map, length, get_or, take, drop, All, sym, refl, ap, ◌∙◌, subst, arith, append-nil, length-append}
use Rattle.std.specs.Prelude.{◌&&◌}
use Rattle.std.specs.List.{list_all, AllByRecursion}
use Rattle.std.proofs.lemmas.Bool.{and_parts}
use Rattle.std.proofs.lemmas.List.{append_cancel_left, map-append, take_all, take_more, take-append-drop, drop_more}
use Rattle.std.proofs.lemmas.List.Elements.{All-from_get_or}
use mathlib.Core.List.{IsPrefix}
use Rattle.atomic_table.specs.Seated.{TableId}
use Rattle.gfx_model.specs.Events.{Event}
use Rattle.gfx_script_model.specs.Ids.{map_ids, defines_of}
use Rattle.gfx_script_model.specs.Runs.{Entry, calls_of, events_of, lines_in}
use Rattle.gfx_script_model.specs.Scripts.{Line, Part}
use Rattle.gfx_seats.specs.declared.hand.Hand.{Hand}
use Rattle.gfx_seats.specs.Entries.{times, created, entries_of}
use Rattle.gfx_seats.specs.Seat.{desk_of}
use Rattle.gfx_seats.proofs.Totals.{times-append, total-append}
use Rattle.gfx_taken_law.proofs.TakenLaws.{creates_alike}
use Rattle.gfx_script.proofs.Renaming.{defines_renamed}
use Rattle.gfx_capture.specs.Entry.{entries_under, entry_thread, entry_ids, event_ids, named_ids}
use Rattle.gfx_capture.specs.ThreadBuffer.{Buffered, CanBePut}
use Rattle.gfx_run_law.specs.Pieces.{joined, AreWhole, HasAllLines}
use Rattle.gfx_run_law.proofs.Pieces.{joined-more, events-append}
use Rattle.gfx_script_law.specs.Playable.{HasBlocks, AreNumbered, names_of, phase_lines, script_lines}
use Rattle.gfx_script_law.proofs.Numbers.{names-count, lines-append, numbered-parts, longer-table}
use Rattle.gfx_script_law.proofs.Agree.{LineBelow, numbered-below, whole-agree, lines-of-thread}
use Rattle.gfx_recorder.specs.declared.end.End.{End}
use Rattle.gfx_recorder.specs.declared.end.End.TheVariants as ended
use Rattle.gfx_recorder.specs.declared.worker.Worker.{Worker}
use Rattle.gfx_recorder.specs.Drawn.{AllDrew}
use Rattle.gfx_recorder.specs.Ends.{is_all, EndsAt}
use Rattle.gfx_recorder.specs.Ids.{id_in}
use Rattle.gfx_recorder.specs.Work.{hand_of, CanRun, Ran}
use Rattle.gfx_recorder.specs.Workers.{Met}
use Rattle.gfx_recorder.specs.Progress.{MadeOfDrawn, Reached, IsAfter, Halfway}
use Rattle.gfx_recorder.proofs.Going.{ids-append, prefix-through}
use Rattle.gfx_recorder.proofs.Draws.{few-drawn}

-- ---- lists of workers

pub all-by : {A : Type 0} (l : List A) (P : A → Type 0) → ((i : ℕ) (d : A) → i < length l → P (get_or l i d)) → All P l
all-by [] P h = λ k d less. absurd (omega arith)
all-by (x ∷ l) P h = All-from_get_or P (x ∷ l) x (λ i less. h i x less)

module _ {A : Type 0} (p : A → Bool) where
  pub all-true : (l : List A) → list_all p l ≡ true → (i : ℕ) (d : A) → i < length l → p (get_or l i d) ≡ true
  all-true [] h i d less = absurd (omega arith)
  all-true (x ∷ l) h zero d less = (and_parts (p x) (list_all p l) h).0
  all-true (x ∷ l) h (suc i) d less = all-true l (and_parts (p x) (list_all p l) h).1 i d (omega arith)

  pub some-false : (l : List A) → list_all p l ≡ false → (i : ℕ) × (i < length l) × ((d : A) → p (get_or l i d) ≡ false)
  some-false [] h = absurd cc
  some-false (x ∷ l) h = by (p x) refl (λ e. some-false l (sym (ap (λ b. b && list_all p l) e) ∙ h))
    where
      by : (b : Bool) → p x ≡ b → (p x ≡ true → (i : ℕ) × (i < length l) × ((d : A) → p (get_or l i d) ≡ false)) → (i : ℕ) × (i < length (x ∷ l)) × ((d : A) → p (get_or (x ∷ l) i d) ≡ false)
      by false e later = (0, omega arith, λ d. e)
      by true e later = let t = later e in (suc t.0, (let q = t.1 in omega arith), λ d. t.2 d)

pub one-of : {A : Type 0} (l : List A) → 0 < length l → A
one-of [] h = absurd (omega arith)
one-of (x ∷ l) h = x

-- ---- calls and their ids

pub names-of-calls : (ids : ℕ → ℕ) (lines : List Line) → named_ids (calls_of ids lines) ≡ map ids (names_of lines)
names-of-calls ids [] = refl
names-of-calls ids (l ∷ ls) =
    (λ i. (defines_renamed 1 ids l.event ∙ ap (map ids) (creates_alike 1 2 l.event)) i ++ names-of-calls ids ls i)
    ∙ sym (map-append ids (defines_of 2 l.event) (names_of ls))

can-put : (m : ℕ) (ids : ℕ → ℕ) → ((k : ℕ) → ids k < 2 ^ 64) → (lines : List Line) → AllByRecursion (HasBlocks m) lines → AllByRecursion (CanBePut m) (calls_of ids lines)
can-put m ids wide [] h = tt
can-put m ids wide (l ∷ ls) h = let b = h.0 ids wide in (record { fits = b.fits; unmarked = b.unmarked; small = b.small }, can-put m ids wide ls h.1)

-- what events create under a thread
pub created-under : (x t : ℕ) (events : List Event) → created entry_ids x (entries_under t events) ≡ times x (named_ids events)
created-under x t [] = refl
created-under x t (e ∷ es) = let r = created-under x t es in let a = times-append x (event_ids e) (named_ids es) in omega arith

pub created-append : (x : ℕ) (l m : List Entry) → created entry_ids x (l ++ m) ≡ created entry_ids x l + created entry_ids x m
created-append x l m = total-append (λ (e : Entry). times x (entry_ids e)) l m

-- the first calls of lines create no more than all
pub created-first : (ids : ℕ → ℕ) (lines : List Line) (k x : ℕ) → times x (named_ids (calls_of ids (take k lines))) ≤ times x (named_ids (calls_of ids lines))
created-first ids lines k x =
    let cut : calls_of ids lines ≡ calls_of ids (take k lines) ++ calls_of ids (drop k lines) = ap (calls_of ids) (sym (take-append-drop k lines)) ∙ map-append (λ l. map_ids ids l.event) (take k lines) (drop k lines) in
    let a : times x (named_ids (calls_of ids lines)) ≡ times x (named_ids (calls_of ids (take k lines)) ++ named_ids (calls_of ids (drop k lines))) = ap (times x) (ap named_ids cut ∙ ids-append (calls_of ids (take k lines)) (calls_of ids (drop k lines))) in
    let b = times-append x (named_ids (calls_of ids (take k lines))) (named_ids (calls_of ids (drop k lines))) in omega arith

events-under : (t : ℕ) (events : List Event) → map (λ (e : Entry). e.event) (entries_under t events) ≡ events
events-under t [] = refl
events-under t (e ∷ es) = ap (λ l. e ∷ l) (events-under t es)

-- the events of entries, one after another
pub events-of-both : (mine : List Entry) (t : ℕ) (events : List Event) → map (λ (e : Entry). e.event) (mine ++ entries_under t events) ≡ map (λ (e : Entry). e.event) mine ++ events
events-of-both mine t events = map-append (λ (e : Entry). e.event) mine (entries_under t events) ∙ ap (λ l. map (λ (e : Entry). e.event) mine ++ l) (events-under t events)

-- what the history of a pass has of its thread is what it made
pub own-events : (w : Worker) (i : ℕ) (log : List Entry) → (hand_of w).thread ≡ i → (hand_of w).seen ≡ log → events_of i log ≡ map (λ (e : Entry). e.event) (hand_of w).mine
own-events w i log thread seen = ap (map (λ (e : Entry). e.event)) ((λ j. entries_of entry_thread (sym thread j) (sym seen j)) ∙ w.pass.own)

-- ---- a phase

pub wholes-more : (n : ℕ) (ids : ℕ → ℕ) (phases : List (List Part)) (pieces : List (List Entry)) (phase : List Part) (piece : List Entry) → AreWhole n ids phases pieces
    → HasAllLines n ids phase piece → AreWhole n ids (phases ++ phase ∷ []) (pieces ++ piece ∷ [])
wholes-more n ids [] [] phase piece w h = (h, tt)
wholes-more n ids [] (q ∷ qs) phase piece w h = absurd w
wholes-more n ids (p ∷ ps) [] phase piece w h = absurd w
wholes-more n ids (p ∷ ps) (q ∷ qs) phase piece w h = (w.0, wholes-more n ids ps qs phase piece w.1 h)

pub ends-all : (ids : ℕ → ℕ) (lines : List Line) (done : ℕ) (end : End) (h : Hand Entry) → is_all end ≡ true → EndsAt ids lines done end h → done ≡ length lines
ends-all ids lines done ended.All h e why = why
ends-all ids lines done (ended.Refused line fault at) h e why = absurd cc
ends-all ids lines done (ended.LogFull long wanted) h e why = absurd cc
ends-all ids lines done ended.WantMemory h e why = absurd cc

module _ (m : ℕ) (desk : TableId) (n : ℕ) (before : List (List Part)) (phase : List Part) (rest : List (List Part)) (table : List ℕ) (ws : List Worker) (r : Reached m desk n before table ws)
    (numbered : AreNumbered 1 (script_lines (before ++ phase ∷ rest))) where
  numbered-cut : AreNumbered 1 (script_lines before) × AreNumbered (1 + length (names_of (script_lines before))) (phase_lines phase ++ script_lines rest)
  numbered-cut = numbered-parts 1 (script_lines before) (phase_lines phase ++ script_lines rest) (subst (AreNumbered 1) (lines-append before (phase ∷ rest)) numbered)

  -- what drawing needs
  pub phase-numbered : AreNumbered (length table) (phase_lines phase)
  phase-numbered = subst (λ k. AreNumbered k (phase_lines phase)) (sym r.names) (numbered-parts (1 + length (names_of (script_lines before))) (phase_lines phase) (script_lines rest) numbered-cut.1).0

  pub phase-few : length (names_of (script_lines (before ++ phase ∷ rest))) < 2 ^ 32 → length table + length (names_of (phase_lines phase)) ≤ 2 ^ 32
  phase-few few =
      let a : length (names_of (script_lines (before ++ phase ∷ rest))) ≡ length (names_of (script_lines before)) + length (names_of (phase_lines phase ++ script_lines rest)) =
      ap (λ l. length (names_of l)) (lines-append before (phase ∷ rest)) ∙ names-count (script_lines before) (phase_lines phase ++ script_lines rest) in
      let b = names-count (phase_lines phase) (script_lines rest) in let c = r.names in omega arith

  pub desks : All (λ w. desk_of w.pass ≡ desk) ws
  desks = all-by ws (λ w. desk_of w.pass ≡ desk) (λ i d less. (r.at i d (let a = r.len in omega arith)).desk_is)

  pub drawn-few : All (λ w. length (hand_of w).drawn < length table) ws
  drawn-few = all-by ws (λ w. length (hand_of w).drawn < length table) (λ i d less. (r.at i d (let a = r.len in omega arith)).few)

  module _ (ws₁ : List Worker) (table₁ : List ℕ) (a : AllDrew phase ws table ws₁ table₁) where
    ids : ℕ → ℕ
    ids = id_in table₁

    -- the phases before are whole under the longer table, too
    whole-still : AreWhole n (id_in table₁) before r.pieces
    whole-still =
        whole-agree n (id_in table) (id_in table₁) (length table) (λ k less. longer-table table a.ids k less ∙ ap (λ t. id_in t k) (sym a.table_is)) before r.pieces
        (subst (λ b. AllByRecursion (LineBelow b) (script_lines before)) (sym r.names) (numbered-below 1 (script_lines before) numbered-cut.0)) r.whole

    pub none-still : id_in table₁ 0 ≡ 0
    none-still = ap (λ t. id_in t 0) a.table_is ∙ (sym (longer-table table a.ids 0 (let b = r.names in omega arith)) ∙ r.none)

    -- worker i has drawn
    module _ (i : ℕ) (d : Worker) (less : i < n) where
      there : i < length ws
      there = let b = r.len in omega arith

      abbrev w : Worker
      w = get_or ws i d

      abbrev w₁ : Worker
      w₁ = get_or ws₁ i d

      drawn-is : (hand_of w₁).drawn ≡ (hand_of w).drawn ++ map (id_in table₁) (names_of (lines_in i phase))
      drawn-is = let b = a.at i d there in ap (λ h. h.drawn) b.hand_is ∙ ap (λ l. (hand_of w).drawn ++ l) (sym (b.ids_are []) ∙ ap (λ t. map (id_in t) (names_of (lines_in i phase))) (append-nil table₁))

      pub counts : (x : ℕ) → created entry_ids x (hand_of w₁).mine + times x (named_ids (calls_of (id_in table₁) (lines_in i phase))) ≤ times x (hand_of w₁).drawn
      counts x =
          let b = a.at i d there in
          let mine : created entry_ids x (hand_of w₁).mine ≡ created entry_ids x (hand_of w).mine = ap (λ h. created entry_ids x h.mine) b.hand_is in
          let new : times x (named_ids (calls_of (id_in table₁) (lines_in i phase))) ≡ times x (map (id_in table₁) (names_of (lines_in i phase))) = ap (times x) (names-of-calls (id_in table₁) (lines_in i phase)) in
          let drawn : times x (hand_of w₁).drawn ≡ times x (hand_of w).drawn + times x (map (id_in table₁) (names_of (lines_in i phase))) = ap (times x) drawn-is ∙ times-append x (hand_of w).drawn (map (id_in table₁) (names_of (lines_in i phase))) in
          let old = (r.at i d less).drew x in omega arith

      thread-now : (hand_of w₁).thread ≡ i
      thread-now = ap (λ h. h.thread) (a.at i d there).hand_is ∙ (r.at i d less).thread

      kind-now : (hand_of w₁).kind ≡ m
      kind-now = ap (λ h. h.kind) (a.at i d there).hand_is ∙ (r.at i d less).kind

      seen-now : (hand_of w₁).seen ≡ joined r.pieces
      seen-now = ap (λ h. h.seen) (a.at i d there).hand_is ∙ (r.at i d less).seen

      desk-now : desk_of w₁.pass ≡ desk
      desk-now = (a.at i d there).desk_is ∙ (r.at i d less).desk_is

      minor-now : w₁.buffer.minor ≡ m
      minor-now = ap (λ (b : Buffered). b.minor) (a.at i d there).buffer ∙ (r.at i d less).minor

      can-run : ((k : ℕ) → id_in table₁ k < 2 ^ 64) → AllByRecursion (HasBlocks m) (phase_lines phase) → CanRun desk (id_in table₁) (lines_in (hand_of w₁).thread phase) w₁
      can-run wide blocks = subst (λ t. CanRun desk (id_in table₁) (lines_in t phase) w₁) (sym thread-now) record {
        desk_is = desk-now;
        idle = ap (λ h. h.stage) (a.at i d there).hand_is ∙ (r.at i d less).idle;
        minor = minor-now ∙ sym kind-now;
        empty = ap (λ (b : Buffered). b.events) (a.at i d there).buffer ∙ (r.at i d less).empty;
        drew = λ x pos. let c = counts x in omega arith;
        blocks = subst (λ k. AllByRecursion (CanBePut k) (calls_of (id_in table₁) (lines_in i phase))) (sym kind-now)
            (can-put m (id_in table₁) wide (lines_in i phase) (lines-of-thread (HasBlocks m) i phase blocks));
      }

    pub ables : ((k : ℕ) → id_in table₁ k < 2 ^ 64) → AllByRecursion (HasBlocks m) (phase_lines phase) → All (λ w. CanRun desk (id_in table₁) (lines_in (hand_of w).thread phase) w) ws₁
    ables wide blocks = all-by ws₁ (λ w. CanRun desk (id_in table₁) (lines_in (hand_of w).thread phase) w) (λ i d less. can-run i d (let b = r.len in let c = a.len in omega arith) wide blocks)

    module _ (ws₂ : List Worker) (len : length ws₂ ≡ length ws₁) (ran : (i : ℕ) (d : Worker) → i < length ws₁ → Ran (id_in table₁) (lines_in (hand_of (get_or ws₁ i d)).thread phase) (get_or ws₁ i d) (get_or ws₂ i d)) where
      abbrev after-at : (i : ℕ) (d : Worker) → i < n → IsAfter m desk i (joined r.pieces) table₁ phase (get_or ws₂ i d)
      after-at i d less = record {
        start = get_or ws₁ i d;
        desk_is = desk-now i d less;
        thread = thread-now i d less;
        kind = kind-now i d less;
        seen = seen-now i d less;
        once = (a.at i d (there i d less)).once (r.at i d less).once;
        drew = counts i d less;
        ran = subst (λ t. Ran (id_in table₁) (lines_in t phase) (get_or ws₁ i d) (get_or ws₂ i d)) (thread-now i d less) (ran i d (let b = r.len in let c = a.len in omega arith));
      }

      pub desks-after : All (λ w. desk_of w.pass ≡ desk) ws₂
      desks-after = all-by ws₂ (λ w. desk_of w.pass ≡ desk) (λ i d less. let h = after-at i d (let b = r.len in let c = a.len in omega arith) in h.ran.desk_is ∙ h.desk_is)

      pub stopped : list_all (λ w. is_all w.end) ws₂ ≡ false → Halfway m desk n (before ++ phase ∷ rest) table₁ ws₂
      stopped failed = let s = some-false (λ (w : Worker). is_all w.end) ws₂ failed in record {
        before = before;
        phase = phase;
        rest = rest;
        are = refl;
        pieces = r.pieces;
        whole = whole-still;
        none = none-still;
        len = len ∙ (a.len ∙ r.len);
        at = after-at;
        some = (s.0, (let x = s.1 in let b = r.len in let c = a.len in omega arith), s.2);
      }

      module _ (ws₃ : List Worker) (met : Met ws₂ ws₃) (done : list_all (λ w. is_all w.end) ws₂ ≡ true) (some : 0 < n) (d₀ : Worker) where
        in-ws₂ : (i : ℕ) → i < n → i < length ws₂
        in-ws₂ i less = let b = r.len in let c = a.len in omega arith

        -- all lines of worker i are in its entries
        mine-after : (i : ℕ) (d : Worker) → i < n → (hand_of (get_or ws₃ i d)).mine ≡ (hand_of (get_or ws₁ i d)).mine ++ entries_under i (calls_of (id_in table₁) (lines_in i phase))
        mine-after i d less =
            let h = after-at i d less in let g = (met.met i d (in-ws₂ i less)).0 in
            let all = ends-all (id_in table₁) (lines_in i phase) (get_or ws₂ i d).done (get_or ws₂ i d).end (hand_of (get_or ws₂ i d)) (all-true (λ (w : Worker). is_all w.end) ws₂ done i d (in-ws₂ i less)) h.ran.why in
            ap (λ z. z.mine) g.same ∙ (h.ran.mine ∙ (λ j. (hand_of (get_or ws₁ i d)).mine ++ entries_under (h.thread j) (calls_of (id_in table₁) (take_all (get_or ws₂ i d).done (lines_in i phase) (omega arith) j))))

        longer : IsPrefix (joined r.pieces) met.log
        longer =
            let h = after-at 0 d₀ some in let g = met.met 0 d₀ (in-ws₂ 0 some) in
            subst (λ (p : List Entry × List Entry). IsPrefix p.0 p.1) (λ j. (h.seen j, g.1 j))
            (prefix-through (hand_of h.start).seen (hand_of (get_or ws₂ 0 d₀)).seen (hand_of (get_or ws₃ 0 d₀)).seen h.ran.keeps.before g.0.before)

        thread-after : (i : ℕ) (d : Worker) → i < n → (hand_of (get_or ws₃ i d)).thread ≡ i
        thread-after i d less = let h = after-at i d less in ap (λ z. z.thread) (met.met i d (in-ws₂ i less)).0.same ∙ (h.ran.keeps.thread ∙ h.thread)

        -- worker i's entries in what came in this phase are its calls
        piece-is : HasAllLines n (id_in table₁) phase longer.0
        piece-is i less =
            append_cancel_left (events_of i (joined r.pieces)) (events_of i longer.0) (calls_of (id_in table₁) (lines_in i phase))
            (sym (events-append i (joined r.pieces) longer.0) ∙ (ap (events_of i) longer.1
            ∙ (own-events (get_or ws₃ i d₀) i met.log (thread-after i d₀ less) (met.met i d₀ (in-ws₂ i less)).1
            ∙ (ap (map (λ (e : Entry). e.event)) (mine-after i d₀ less)
            ∙ (events-of-both (hand_of (get_or ws₁ i d₀)).mine i (calls_of (id_in table₁) (lines_in i phase))
            ∙ ap (λ l. l ++ calls_of (id_in table₁) (lines_in i phase)) (sym (own-events (get_or ws₁ i d₀) i (joined r.pieces) (thread-now i d₀ less) (seen-now i d₀ less))))))))

        made-of-drawn : (i : ℕ) (d : Worker) → i < n → MadeOfDrawn (hand_of (get_or ws₃ i d))
        made-of-drawn i d less x =
            let h = after-at i d less in let g = (met.met i d (in-ws₂ i less)).0 in
            let mine : created entry_ids x (hand_of (get_or ws₃ i d)).mine ≡ created entry_ids x (hand_of (get_or ws₁ i d)).mine + times x (named_ids (calls_of (id_in table₁) (lines_in i phase))) =
            ap (created entry_ids x) (mine-after i d less) ∙ (created-append x (hand_of (get_or ws₁ i d)).mine (entries_under i (calls_of (id_in table₁) (lines_in i phase)))
            ∙ ap (λ k. created entry_ids x (hand_of (get_or ws₁ i d)).mine + k) (created-under x i (calls_of (id_in table₁) (lines_in i phase)))) in
            let drawn : times x (hand_of (get_or ws₃ i d)).drawn ≡ times x (hand_of (get_or ws₁ i d)).drawn = ap (times x) (ap (λ z. z.drawn) g.same ∙ h.ran.keeps.drawn) in
            let c = counts i d less x in omega arith

        pub reached : Reached m desk n (before ++ phase ∷ []) table₁ ws₃
        reached = record {
          pieces = r.pieces ++ longer.0 ∷ [];
          whole = wholes-more n (id_in table₁) before r.pieces phase longer.0 whole-still piece-is;
          names =
              let x : length table₁ ≡ length table + length a.ids = ap length a.table_is ∙ length-append table a.ids in
              let single : script_lines (phase ∷ []) ≡ phase_lines phase = append-nil (phase_lines phase) in
              let y : length (names_of (script_lines (before ++ phase ∷ []))) ≡ length (names_of (script_lines before)) + length (names_of (phase_lines phase)) =
              ap (λ l. length (names_of l)) (lines-append before (phase ∷ []) ∙ ap (λ l. script_lines before ++ l) single) ∙ names-count (script_lines before) (phase_lines phase) in
              let z = a.count in let u = r.names in omega arith;
          none = none-still;
          len = met.len ∙ (len ∙ (a.len ∙ r.len));
          at = λ i d less. let h = after-at i d less in let g = met.met i d (in-ws₂ i less) in record {
            desk_is = g.0.desk_is ∙ (h.ran.desk_is ∙ h.desk_is);
            thread = thread-after i d less;
            kind = ap (λ z. z.kind) g.0.same ∙ (h.ran.keeps.kind ∙ h.kind);
            idle = ap (λ z. z.stage) g.0.same ∙ h.ran.keeps.stage;
            minor = ap (λ (b : Buffered). b.minor) g.0.buffer ∙ (h.ran.minor ∙ minor-now i d less);
            empty = ap (λ (b : Buffered). b.events) g.0.buffer ∙ h.ran.empty;
            seen = g.1 ∙ (sym longer.1 ∙ sym (joined-more r.pieces longer.0));
            once = λ x. subst (λ l. times x l ≤ 1) (sym (ap (λ z. z.drawn) g.0.same ∙ h.ran.keeps.drawn)) (h.once x);
            drew = made-of-drawn i d less;
            few = subst (λ l. length l < length table₁) (sym (ap (λ z. z.drawn) g.0.same ∙ h.ran.keeps.drawn)) (few-drawn phase ws ws₁ table table₁ a i d (there i d less) (r.at i d less).few);
          };
        }

-- ---- phases one after another

module _ {A : Type 0} (xs : List A) (k : ℕ) (x : A) (less : k < length xs) (is : x ≡ get_or xs k x) where
  pub item-cut : drop k xs ≡ x ∷ drop (k + 1) xs
  item-cut = drop_more xs k x less ∙ ap (λ y. y ∷ drop (k + 1) xs) (sym is)

  pub item-next : take (k + 1) xs ≡ take k xs ++ x ∷ []
  item-next = take_more xs k x less ∙ ap (λ y. take k xs ++ y ∷ []) (sym is)

  pub item-at : xs ≡ take k xs ++ x ∷ drop (k + 1) xs
  item-at = sym (take-append-drop k xs) ∙ ap (λ l. take k xs ++ l) item-cut
