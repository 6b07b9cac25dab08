-- What is counted of a stage.
use Rattle.std.specs.Prelude.{ℕ, Bool, true, false, List, [], ◌∷◌}
use Rattle.gfx_seats.specs.declared.stage.Stage.{Stage}
use Rattle.gfx_seats.specs.declared.stage.Stage.TheVariants.{Absent, Idle, Waits, HasTurn}

-- the stage between two calls
abbrev pub stage_of : Bool → Stage
stage_of true = HasTurn
stage_of false = Idle

-- 1 where there is a thread
abbrev pub seat_count : Stage → ℕ
seat_count Absent = 0
seat_count Idle = 1
seat_count (Waits k) = 1
seat_count HasTurn = 1

-- 1 where it has the turn
abbrev pub turn_count : Stage → ℕ
turn_count Absent = 0
turn_count Idle = 0
turn_count (Waits k) = 0
turn_count HasTurn = 1

-- the ticket that it waits with
abbrev pub tickets_of : Stage → List ℕ
tickets_of Absent = []
tickets_of Idle = []
tickets_of (Waits k) = k ∷ []
tickets_of HasTurn = []

-- the thread, where there is one
abbrev pub threads_of : Stage → ℕ → List ℕ
threads_of Absent t = []
threads_of Idle t = t ∷ []
threads_of (Waits k) t = t ∷ []
threads_of HasTurn t = t ∷ []
