-- What a worker needs and does.
use Rattle.std.specs.Prelude.{◌≡◌, ℕ, ◌+◌, ◌≤◌, List, [], ◌++◌, length, take}
use Rattle.std.specs.List.{AllByRecursion}
use Rattle.atomic_table.specs.Seated.{TableId}
use Rattle.gfx_model.specs.Events.{Event}
use Rattle.gfx_script_model.specs.Runs.{Entry, calls_of}
use Rattle.gfx_script_model.specs.Scripts.{Line}
use Rattle.gfx_seats.specs.declared.hand.Hand.{Hand}
use Rattle.gfx_seats.specs.declared.stage.Stage.TheVariants.{Idle}
use Rattle.gfx_seats.specs.Entries.{AreAmong}
use Rattle.gfx_seats.specs.Seat.{hand, desk_of}
use Rattle.gfx_capture.specs.declared.answer.AppendFault.{AppendFault}
use Rattle.gfx_capture.specs.declared.answer.AppendFault.TheVariants as append
use Rattle.gfx_capture.specs.Append.{IsFaulty, IsFull, IsAt}
use Rattle.gfx_capture.specs.Entry.{entries_under, named_ids}
use Rattle.gfx_capture.specs.Pass.{Keeps}
use Rattle.gfx_capture.specs.ThreadBuffer.{CanBePut}
use Rattle.gfx_recorder.specs.declared.worker.Worker.{Worker}
use Rattle.gfx_recorder.specs.Ends.{EndsAt}

-- what the worker's pass shows
abbrev pub hand_of : Worker → Hand Entry
hand_of w = hand w.pass

-- the worker can put one line more: its pass is at this desk and idle, and drew the ids of what is held
pub record IsReady (desk : TableId) (w : Worker) : Type 0 where
  pub desk_is : desk_of w.pass ≡ desk
  pub idle : (hand_of w).stage ≡ Idle
  pub minor : w.buffer.minor ≡ (hand_of w).kind
  pub drew : AreAmong (named_ids w.buffer.events) (hand_of w).drawn

-- the worker put these events: it appended the first of those that it held and these, and holds the others
pub record Puts (w : Worker) (events : List Event) (w' : Worker) : Type 0 where
  pub desk_is : desk_of w'.pass ≡ desk_of w.pass
  pub keeps : Keeps (hand_of w) (hand_of w')
  pub minor : w'.buffer.minor ≡ w.buffer.minor
  pub made : List Event
  pub mine : (hand_of w').mine ≡ (hand_of w).mine ++ entries_under (hand_of w).thread made
  pub all : made ++ w'.buffer.events ≡ w.buffer.events ++ events
  pub done : w'.done ≡ w.done + length made

-- why the event at a place was not appended, by what the pass has seen then
abbrev pub Why : List Event → ℕ → AppendFault → Hand Entry → Type 0
Why events place (append.Refused f at done) h = (at ≡ length h.seen) × IsAt events place (λ event. IsFaulty h.kind h.thread h.seen event f)
Why events place (append.LogFull l wanted done) h = IsAt events place (λ event. IsFull h.kind h.thread h.seen event l wanted)
Why events place (append.WantMemory done) h = Unit {0}

-- the worker stopped on its way through these events: it appended just the first `count` of those that it held and these
pub record Stops (w : Worker) (events : List Event) (fault : AppendFault) (w' : Worker) : Type 0 where
  pub desk_is : desk_of w'.pass ≡ desk_of w.pass
  pub keeps : Keeps (hand_of w) (hand_of w')
  pub minor : w'.buffer.minor ≡ w.buffer.minor
  pub count : ℕ
  pub within : count ≤ length (w.buffer.events ++ events)
  pub mine : (hand_of w').mine ≡ (hand_of w).mine ++ entries_under (hand_of w).thread (take count (w.buffer.events ++ events))
  pub done : w'.done ≡ w.done + count
  pub why : Why (w.buffer.events ++ events) count fault (hand_of w')

-- the worker can run lines: it holds nothing, and its pass drew the ids of what they define
pub record CanRun (desk : TableId) (ids : ℕ → ℕ) (lines : List Line) (w : Worker) : Type 0 where
  pub desk_is : desk_of w.pass ≡ desk
  pub idle : (hand_of w).stage ≡ Idle
  pub minor : w.buffer.minor ≡ (hand_of w).kind
  pub empty : w.buffer.events ≡ []
  pub drew : AreAmong (named_ids (calls_of ids lines)) (hand_of w).drawn
  pub blocks : AllByRecursion (CanBePut (hand_of w).kind) (calls_of ids lines)

-- the worker ran the lines: the calls of the first `done` are what its pass made, and this is how it ended
pub record Ran (ids : ℕ → ℕ) (lines : List Line) (w w' : Worker) : Type 0 where
  pub desk_is : desk_of w'.pass ≡ desk_of w.pass
  pub keeps : Keeps (hand_of w) (hand_of w')
  pub minor : w'.buffer.minor ≡ w.buffer.minor
  pub empty : w'.buffer.events ≡ []
  pub within : w'.done ≤ length lines
  pub mine : (hand_of w').mine ≡ (hand_of w).mine ++ entries_under (hand_of w).thread (calls_of ids (take w'.done lines))
  pub why : EndsAt ids lines w'.done w'.end (hand_of w')
