-- How far the workers have come.
use Rattle.std.specs.Prelude.{◌≡◌, ℕ, ◌+◌, ◌<◌, ◌≤◌, false, List, [], ◌∷◌, ◌++◌, length, slice_index_or}
use Rattle.atomic_table.specs.Seated.{TableId}
use Rattle.gfx_script_model.specs.Runs.{Entry, calls_of, lines_in}
use Rattle.gfx_script_model.specs.Scripts.{Part}
use Rattle.gfx_seats.specs.declared.hand.Hand.{Hand}
use Rattle.gfx_seats.specs.declared.stage.Stage.TheVariants.{Idle}
use Rattle.gfx_seats.specs.Entries.{times, created}
use Rattle.gfx_seats.specs.Seat.{desk_of}
use Rattle.gfx_capture.specs.Entry.{entry_ids, named_ids}
use Rattle.gfx_run_law.specs.Pieces.{joined, AreWhole}
use Rattle.gfx_script_law.specs.Playable.{names_of, script_lines}
use Rattle.gfx_recorder.specs.declared.worker.Worker.{Worker}
use Rattle.gfx_recorder.specs.Drawn.{DrewOnce}
use Rattle.gfx_recorder.specs.Ends.{is_all}
use Rattle.gfx_recorder.specs.Ids.{id_in}
use Rattle.gfx_recorder.specs.Work.{hand_of, Ran}

-- what a pass made creates just ids that it drew
abbrev pub MadeOfDrawn : Hand Entry → Type 0
MadeOfDrawn h = (x : ℕ) → created entry_ids x h.mine ≤ times x h.drawn

-- worker i between two phases of a script of version m: it has seen this log, holds nothing, and its ids are in the table
pub record IsBetween (m : ℕ) (desk : TableId) (i : ℕ) (log : List Entry) (table : List ℕ) (w : Worker) : Type 0 where
  pub desk_is : desk_of w.pass ≡ desk
  pub thread : (hand_of w).thread ≡ i
  pub kind : (hand_of w).kind ≡ m
  pub idle : (hand_of w).stage ≡ Idle
  pub minor : w.buffer.minor ≡ m
  pub empty : w.buffer.events ≡ []
  pub seen : (hand_of w).seen ≡ log
  pub once : DrewOnce (hand_of w)
  pub drew : MadeOfDrawn (hand_of w)
  pub few : length (hand_of w).drawn < length table

-- n workers after the phases `before`, whose names have their ids in the table
pub record Reached (m : ℕ) (desk : TableId) (n : ℕ) (before : List (List Part)) (table : List ℕ) (ws : List Worker) : Type 0 where
  pub pieces : List (List Entry)
  pub whole : AreWhole n (id_in table) before pieces
  pub names : length table ≡ 1 + length (names_of (script_lines before))
  pub none : id_in table 0 ≡ 0
  pub len : length ws ≡ n
  pub at : (i : ℕ) (d : Worker) → i < n → IsBetween m desk i (joined pieces) table (slice_index_or ws i d)

-- worker i after a phase, which it began with this log
pub record IsAfter (m : ℕ) (desk : TableId) (i : ℕ) (log : List Entry) (table : List ℕ) (phase : List Part) (w : Worker) : Type 0 where
  pub start : Worker
  pub desk_is : desk_of start.pass ≡ desk
  pub thread : (hand_of start).thread ≡ i
  pub kind : (hand_of start).kind ≡ m
  pub seen : (hand_of start).seen ≡ log
  pub once : DrewOnce (hand_of start)
  pub drew : (x : ℕ) → created entry_ids x (hand_of start).mine + times x (named_ids (calls_of (id_in table) (lines_in i phase))) ≤ times x (hand_of start).drawn
  pub ran : Ran (id_in table) (lines_in i phase) start w

-- n workers after a phase in which a call was not accepted
pub record Halfway (m : ℕ) (desk : TableId) (n : ℕ) (phases : List (List Part)) (table : List ℕ) (ws : List Worker) : Type 0 where
  pub before : List (List Part)
  pub phase : List Part
  pub rest : List (List Part)
  pub are : phases ≡ before ++ phase ∷ rest
  pub pieces : List (List Entry)
  pub whole : AreWhole n (id_in table) before pieces
  pub none : id_in table 0 ≡ 0
  pub len : length ws ≡ n
  pub at : (i : ℕ) (d : Worker) → i < n → IsAfter m desk i (joined pieces) table phase (slice_index_or ws i d)
  pub some : (i : ℕ) × (i < n) × ((d : Worker) → is_all (slice_index_or ws i d).end ≡ false)

-- workers that have done nothing
abbrev pub AreNew : ℕ → TableId → List Worker → Type 0
AreNew m desk ws = (i : ℕ) (d : Worker) → i < length ws → IsBetween m desk i [] (0 ∷ []) (slice_index_or ws i d)
