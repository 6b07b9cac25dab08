-- What meeting does to the workers.
use Rattle.std.specs.Prelude.{◌≡◌, ℕ, ◌<◌, ◌≤◌, List, length, slice_index_or}
use mathlib.Core.List.{IsPrefix}
use Rattle.gfx_script_model.specs.Runs.{Entry}
use Rattle.gfx_seats.specs.declared.hand.Hand.{Hand}
use Rattle.gfx_seats.specs.Seat.{desk_of}
use Rattle.gfx_recorder.specs.declared.worker.Worker.{Worker}
use Rattle.gfx_recorder.specs.Work.{hand_of}

-- a hand that has seen this, and knows of so many entries
abbrev pub has_seen : Hand Entry → List Entry → ℕ → Hand Entry
has_seen h log known = record h { seen = log; known = known }

-- a pass has seen more, and nothing else changed
pub record SeesMore (w w' : Worker) : Type 0 where
  pub desk_is : desk_of w'.pass ≡ desk_of w.pass
  pub buffer : w'.buffer ≡ w.buffer
  pub same : hand_of w' ≡ has_seen (hand_of w) (hand_of w').seen (hand_of w').known
  pub before : IsPrefix (hand_of w).seen (hand_of w').seen

-- the first worker met the first `count` others; where it had seen as much as each of them, all have seen what it had
pub record Swept (count : ℕ) (f : Worker) (ws : List Worker) (f' : Worker) (ws' : List Worker) : Type 0 where
  pub first : SeesMore f f'
  pub len : length ws' ≡ length ws
  pub met : (k : ℕ) (d : Worker) → k < count → SeesMore (slice_index_or ws k d) (slice_index_or ws' k d) × IsPrefix (hand_of (slice_index_or ws' k d)).seen (hand_of f').seen
  pub rest : (k : ℕ) (d : Worker) → count ≤ k → slice_index_or ws' k d ≡ slice_index_or ws k d
  pub still : ((k : ℕ) (d : Worker) → k < length ws → IsPrefix (hand_of (slice_index_or ws k d)).seen (hand_of f).seen)
      → ((hand_of f').seen ≡ (hand_of f).seen) × ((k : ℕ) (d : Worker) → k < count → (hand_of (slice_index_or ws' k d)).seen ≡ (hand_of f).seen)

-- all have seen one history
pub record Met (ws ws' : List Worker) : Type 0 where
  pub log : List Entry
  pub len : length ws' ≡ length ws
  pub met : (k : ℕ) (d : Worker) → k < length ws → SeesMore (slice_index_or ws k d) (slice_index_or ws' k d) × ((hand_of (slice_index_or ws' k d)).seen ≡ log)
