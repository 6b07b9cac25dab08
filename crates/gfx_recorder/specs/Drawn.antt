-- Ids that passes drew for the names of a phase.
use Rattle.std.specs.Prelude.{◌≡◌, ◌≢◌, ℕ, ◌<◌, ◌≤◌, List, ◌++◌, length, map, slice_index_or}
use Rattle.gfx_script_model.specs.Runs.{Entry, lines_in}
use Rattle.gfx_script_model.specs.Scripts.{Part}
use Rattle.gfx_seats.specs.declared.hand.Hand.{Hand}
use Rattle.gfx_seats.specs.Entries.{times}
use Rattle.gfx_seats.specs.Seat.{desk_of}
use Rattle.gfx_script_law.specs.Playable.{names_of, phase_lines}
use Rattle.gfx_recorder.specs.declared.worker.Worker.{Worker}
use Rattle.gfx_recorder.specs.Ids.{id_in}
use Rattle.gfx_recorder.specs.Work.{hand_of}

-- it drew each id once
abbrev pub DrewOnce : Hand Entry → Type 0
DrewOnce h = (x : ℕ) → times x h.drawn ≤ 1

-- a hand that drew more ids
abbrev pub with_ids : Hand Entry → List ℕ → Hand Entry
with_ids h ids = record h { drawn = h.drawn ++ ids }

-- the pass drew so many ids, which are at the end of the table
pub record Drew (count : ℕ) (h : Hand Entry) (table : List ℕ) (h' : Hand Entry) (table' : List ℕ) : Type 0 where
  pub ids : List ℕ
  pub count_is : length ids ≡ count
  pub table_is : table' ≡ table ++ ids
  pub hand_is : h' ≡ with_ids h ids
  pub once : DrewOnce h → DrewOnce h'

-- of the workers just this one drew, for so many names
pub record OneDrew (place count : ℕ) (ws : List Worker) (table : List ℕ) (ws' : List Worker) (table' : List ℕ) : Type 0 where
  pub len : length ws' ≡ length ws
  pub others : (i : ℕ) (d : Worker) → i ≢ place → slice_index_or ws' i d ≡ slice_index_or ws i d
  pub desk_is : (d : Worker) → desk_of (slice_index_or ws' place d).pass ≡ desk_of (slice_index_or ws place d).pass
  pub buffer : (d : Worker) → (slice_index_or ws' place d).buffer ≡ (slice_index_or ws place d).buffer
  pub drew : (d : Worker) → Drew count (hand_of (slice_index_or ws place d)) table (hand_of (slice_index_or ws' place d)) table'

-- worker i drew the ids of the names that its lines define
pub record DrewAt (i : ℕ) (parts : List Part) (table : List ℕ) (w w' : Worker) : Type 0 where
  pub desk_is : desk_of w'.pass ≡ desk_of w.pass
  pub buffer : w'.buffer ≡ w.buffer
  pub ids : List ℕ
  pub hand_is : hand_of w' ≡ with_ids (hand_of w) ids
  pub once : DrewOnce (hand_of w) → DrewOnce (hand_of w')
  -- so it stays when the table grows
  pub ids_are : (more : List ℕ) → map (id_in (table ++ more)) (names_of (lines_in i parts)) ≡ ids

-- the workers drew ids for all names that the parts define, which are at the end of the table
pub record AllDrew (parts : List Part) (ws : List Worker) (table : List ℕ) (ws' : List Worker) (table' : List ℕ) : Type 0 where
  pub len : length ws' ≡ length ws
  pub ids : List ℕ
  pub table_is : table' ≡ table ++ ids
  pub count : length ids ≡ length (names_of (phase_lines parts))
  pub at : (i : ℕ) (d : Worker) → i < length ws → DrewAt i parts table' (slice_index_or ws i d) (slice_index_or ws' i d)
