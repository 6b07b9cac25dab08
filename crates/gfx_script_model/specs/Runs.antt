-- Logs that a script may leave, and where its threads may stop.
use Rattle.std.specs.Prelude.{◌≡◌, zero, suc, not, nat_le, if◌then◌else◌, MatchBool, ◌⊎◌, ◌<◌, ◌≤◌, ℕ, ◌+◌, ◌==◌, Bool, true, false, List, [], ◌∷◌, ◌++◌, map, filter, flat_map, take, length, slice_get, Option, Some, None, IsTrue, IsSome}
use Rattle.std.specs.List.{list_any, list_all, AllByRecursion}
use Rattle.gfx_model.specs.Limits.{max_log}
use Rattle.gfx_model.specs.Events.{Event}
use Rattle.gfx_model.specs.Spelling.{header, encoding}
use Rattle.gfx_script_model.specs.Ids.{map_ids, uses_of, defines_of}
use Rattle.gfx_model.specs.Checks.{is_distinct}
use Rattle.gfx_model.specs.History.{view, fault, is_valid}
use Rattle.gfx_script_model.specs.Scripts.{Line, Part}

-- an event under its thread
pub record Entry : Type 0 where
  pub thread : ℕ
  pub event : Event

-- the events of a log, the newest first, put before a history
abbrev pub history_onto : List Entry → List Event → List Event
history_onto [] h = h
history_onto (e ∷ es) h = history_onto es (e.event ∷ h)

-- the history of a log
abbrev pub history : List Entry → List Event
history log = history_onto log []

-- the bytes of a log's blocks
abbrev pub log_bytes : ℕ → List Entry → List ℕ
log_bytes m log = flat_map (λ e. encoding m e.thread e.event) log

-- the events of one thread, in order
abbrev pub events_of : ℕ → List Entry → List Event
events_of t log = map (λ e. e.event) (filter (λ e. e.thread == t) log)

-- the lines as events, each number of a name being the id that `ids` gives it
abbrev pub calls_of : (ℕ → ℕ) → List Line → List Event
calls_of ids lines = map (λ l. map_ids ids l.event) lines

-- the ids that a log creates
abbrev pub created_by : ℕ → List Entry → List ℕ
created_by m log = flat_map (λ e. defines_of m e.event) log

-- ids for numbers of names: 0 for none, and what the log creates are different ids from 1 on
pub record AreIds (m : ℕ) (ids : ℕ → ℕ) (log : List Entry) : Type 0 where
  pub none : ids 0 ≡ 0
  pub positive : IsTrue (list_all (nat_le 1) (created_by m log))
  pub distinct : IsTrue (is_distinct (created_by m log))

-- the piece has threads of this phase alone, and of each thread a prefix of its lines
pub record IsPiece (ids : ℕ → ℕ) (phase : List Part) (piece : List Entry) : Type 0 where
  pub threads : IsTrue (list_all (λ e. list_any (λ p. p.thread == e.thread) phase) piece)
  pub prefixes : AllByRecursion (λ p. events_of p.thread piece ≡ calls_of ids (take (length (events_of p.thread piece)) p.lines)) phase

-- and all lines of each thread
pub record IsWholePiece (ids : ℕ → ℕ) (phase : List Part) (piece : List Entry) : Type 0 where
  pub is_piece : IsPiece ids phase piece
  pub all : AllByRecursion (λ p. events_of p.thread piece ≡ calls_of ids p.lines) phase

-- pieces for the first phases: whole but for the last, which is whole where `last` says so
abbrev pub ArePieces : Bool → (ℕ → ℕ) → List (List Part) → List (List Entry) → Type 0
ArePieces last ids phases [] = Unit {0}
ArePieces last ids [] (piece ∷ pieces) = ⊥
ArePieces last ids (phase ∷ phases) (piece ∷ []) = MatchBool last (IsWholePiece ids phase piece) (IsPiece ids phase piece)
ArePieces last ids (phase ∷ phases) (piece ∷ next ∷ pieces) =
    IsWholePiece ids phase piece × ArePieces last ids phases (next ∷ pieces)

-- how a log is a run of the first phases of a script
pub record Run (m : ℕ) (last : Bool) (phases : List (List Part)) (log : List Entry) (q : ℕ) : Type 0 where
  pub ids : ℕ → ℕ
  pub pieces : List (List Entry)
  pub cut : log ≡ flat_map (λ piece. piece) pieces
  pub count : length pieces ≡ q
  pub are_ids : AreIds m ids log
  pub are : ArePieces last ids phases pieces

-- the log is a run of phases 1 to q
abbrev pub Runs : ℕ → List (List Part) → List Entry → ℕ → Type 0
Runs m phases log q = Run m false phases log q

-- the log is a run of all phases, with all lines
abbrev pub Matches : ℕ → List (List Part) → List Entry → Type 0
Matches m phases log = Run m true phases log (length phases)

-- the last piece of a run
abbrev pub last_piece : List (List Entry) → List Entry
last_piece [] = []
last_piece (piece ∷ []) = piece
last_piece (piece ∷ next ∷ pieces) = last_piece (next ∷ pieces)

-- the lines of a thread in a phase
abbrev pub lines_in : ℕ → List Part → List Line
lines_in t [] = []
lines_in t (p ∷ ps) = if p.thread == t then p.lines else lines_in t ps

-- the lines of a thread in phase q, from 1 on
abbrev pub lines_of_phase : List (List Part) → ℕ → ℕ → List Line
lines_of_phase phases zero t = []
lines_of_phase [] (suc q) t = []
lines_of_phase (phase ∷ phases) (suc zero) t = lines_in t phase
lines_of_phase (phase ∷ phases) (suc (suc q)) t = lines_of_phase phases (suc q) t

-- the next line of thread t in phase q after a run
abbrev pub next_line : {m : ℕ} {phases : List (List Part)} {log : List Entry} {q : ℕ} → Run m false phases log q → ℕ → Option Line
next_line {phases = phases} {q = q} run t =
    slice_get (lines_of_phase phases q t) (length (events_of t (last_piece run.pieces)))

-- the event of a line after a log: used names by the ids of the run, and what it defines by new ids from 1 on
pub record IsCall {m : ℕ} {phases : List (List Part)} {log : List Entry} {q : ℕ}
    (run : Run m false phases log q) (line : Line) (event : Event) : Type 0 where
  pub ids : ℕ → ℕ
  pub none : ids 0 ≡ 0
  pub known : AllByRecursion (λ k. ids k ≡ run.ids k) (uses_of m line.event)
  pub positive : IsTrue (list_all (nat_le 1) (defines_of m event))
  pub distinct : IsTrue (is_distinct (defines_of m event))
  pub unused : IsTrue (list_all (λ x. not ((view (history log)).used x)) (defines_of m event))
  pub same : event ≡ map_ids ids line.event

-- the bytes of a log with its header
abbrev pub log_length : ℕ → List Entry → ℕ
log_length m log = length (header m) + length (log_bytes m log)

-- the bytes of one block
abbrev pub call_length : ℕ → ℕ → Event → ℕ
call_length m t event = length (encoding m t event)

-- the event under thread t doesn't fit after the log, or it fits and has a fault there
abbrev pub IsRefused : ℕ → List Entry → ℕ → Event → Type 0
IsRefused m log t event =
    (max_log < log_length m log + call_length m t event)
    ⊎ ((log_length m log + call_length m t event ≤ max_log) × IsSome (fault (history log) event))

-- thread t is stopped in phase q of a log, after a prefix of it at which its next line was the same
pub record Stopped (m : ℕ) (phases : List (List Part)) (log : List Entry) (q t : ℕ) (before : List Entry) : Type 0 where
  pub run : Run m false phases log q
  pub run_before : Run m false phases before q
  pub rest : List Entry
  pub is_prefix : log ≡ before ++ rest
  pub line : Line
  pub next : next_line run t ≡ Some line
  pub next_before : next_line run_before t ≡ Some line
  pub event : Event
  pub is_call : IsCall run_before line event
  pub refused : IsRefused m before t event

-- no next line of any run can fail
abbrev pub Safe : ℕ → List (List Part) → Type 0
Safe m phases = (log : List Entry) (q t : ℕ) (run : Run m false phases log q) (line : Line) (event : Event) →
    is_valid (history log) ≡ true → next_line run t ≡ Some line → IsCall run line event →
    (fault (history log) event ≡ None) × (log_length m log + call_length m t event ≤ max_log)
