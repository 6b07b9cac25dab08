-- The lines of a thread with its writes gathered.
use Rattle.std.specs.Prelude.{ℕ, ◌+◌, nat_le, Bool, true, false, ◌&&◌, if◌then◌else◌, List, [], ◌∷◌, ◌++◌, map, length, Option, Some, None}
use Rattle.gfx_model.specs.Events.{Event}
use Rattle.gfx_model.specs.Events.Event.{FreeMemory, UnmapMemory, QueueSubmit, FillMemory}
use Rattle.gfx_script_model.specs.Scripts.{Line, Part}
use Rattle.gfx_shadow.specs.Writes.{Write, fills, memory_limit}

-- the write that is held in place of an event: one with a byte or more that ends at 2^28 or below
abbrev pub held_of : Event → Option Write
held_of (FillMemory memory offset bytes) =
    if nat_le 1 (length bytes) && nat_le (offset + length bytes) memory_limit
    then Some (record { memory = memory; offset = offset; bytes = bytes })
    else None
held_of _ = None

-- before such an event no write is held any more
abbrev pub ends_holding : Event → Bool
ends_holding (FreeMemory device memory) = true
ends_holding (UnmapMemory device memory) = true
ends_holding (QueueSubmit queue submits fence) = true
ends_holding _ = false

-- a fill as an event
abbrev pub event_of_write : Write → Event
event_of_write w = FillMemory w.memory w.offset w.bytes

-- the fills of held writes as lines, all with one number
abbrev pub fill_lines : ℕ → List Write → List Line
fill_lines number held = map (λ w. record { number = number; event = event_of_write w }) (fills held)

-- the number of the last line, 0 where there is none
abbrev pub last_number : List Line → ℕ
last_number [] = 0
last_number (l ∷ []) = l.number
last_number (l ∷ k ∷ ls) = last_number (k ∷ ls)

-- the lines after some that left these writes held; `last` is the number of the last one
unfoldable pub gathered_after : ℕ → List Write → List Line → List Line
gathered_after last held [] = fill_lines last held
gathered_after last held (l ∷ ls) = elim (held_of l.event) [
  | Some w ↦ gathered_after last (held ++ w ∷ []) ls
  | None ↦
      if ends_holding l.event then fill_lines l.number held ++ l ∷ gathered_after last [] ls
      else l ∷ gathered_after last held ls
]

-- Lines with their writes gathered: a write is held. Before a line that frees or unmaps memory or submits, the held
-- writes stand as fills with the number of that line, and after the last line with its number.
abbrev pub gathered : List Line → List Line
gathered lines = gathered_after (last_number lines) [] lines

-- the lines of a thread in a phase with their writes gathered
abbrev pub gathered_part : Part → Part
gathered_part p = record p { lines = gathered p.lines }

-- phases with the writes of each thread gathered
abbrev pub gathered_phases : List (List Part) → List (List Part)
gathered_phases phases = map (map gathered_part) phases
