-- How workers end.
use Rattle.std.specs.Prelude.{◌≡◌, ℕ, zero, suc, Bool, true, false, List, [], ◌∷◌, length, slice_get, Some, Result, Ok, Err}
use Rattle.gfx_script_model.specs.Ids.{map_ids}
use Rattle.gfx_script_model.specs.Runs.{Entry}
use Rattle.gfx_script_model.specs.Scripts.{Line}
use Rattle.gfx_seats.specs.declared.hand.Hand.{Hand}
use Rattle.gfx_capture.specs.declared.answer.AppendFault.{AppendFault}
use Rattle.gfx_capture.specs.declared.answer.AppendFault.TheVariants as append
use Rattle.gfx_capture.specs.Append.{IsFaulty, IsFull}
use Rattle.gfx_recorder.specs.declared.end.End.{End}
use Rattle.gfx_recorder.specs.declared.end.End.TheVariants.{All, Refused, LogFull, WantMemory}

-- how many lines were appended before a fault
abbrev pub done_of : AppendFault → ℕ
done_of (append.Refused fault at done) = done
done_of (append.LogFull l wanted done) = done
done_of (append.WantMemory done) = done

-- the number of the line at a place, and 0 where there is none
abbrev pub number_at : List Line → ℕ → ℕ
number_at [] place = 0
number_at (line ∷ lines) zero = line.number
number_at (line ∷ lines) (suc place) = number_at lines place

-- how a worker ends whose line with this number has the fault
abbrev pub end_of : ℕ → AppendFault → End
end_of line (append.Refused fault at done) = Refused line fault at
end_of line (append.LogFull l wanted done) = LogFull l wanted
end_of line (append.WantMemory done) = WantMemory

-- how a worker ends with this answer at the line with this number
abbrev pub end_by : ℕ → Result (Unit {0}) AppendFault → End
end_by line (Ok _) = All
end_by line (Err fault) = end_of line fault

-- all lines were accepted
abbrev pub is_all : End → Bool
is_all All = true
is_all (Refused line fault at) = false
is_all (LogFull l wanted) = false
is_all WantMemory = false

-- no memory was found
abbrev pub is_memory : End → Bool
is_memory All = false
is_memory (Refused line fault at) = false
is_memory (LogFull l wanted) = false
is_memory WantMemory = true

-- the line at a place, and what is true of it
abbrev pub IsNext : List Line → ℕ → (Line → Type 0) → Type 0
IsNext lines place P = (line : Line) × (slice_get lines place ≡ Some line) × P line

-- why a worker ended whose first `done` lines were accepted
abbrev pub EndsAt : (ℕ → ℕ) → List Line → ℕ → End → Hand Entry → Type 0
EndsAt ids lines done All h = done ≡ length lines
EndsAt ids lines done (Refused number fault at) h =
    IsNext lines done (λ line. (number ≡ line.number) × (at ≡ length h.seen) × IsFaulty h.kind h.thread h.seen (map_ids ids line.event) fault)
EndsAt ids lines done (LogFull l wanted) h = IsNext lines done (λ line. IsFull h.kind h.thread h.seen (map_ids ids line.event) l wanted)
EndsAt ids lines done WantMemory h = Unit {0}
