use Rattle.std.proofs.Common.{◌-◌, flat_map, length, take}
use Rattle.gfx_tracker.specs.Tracker.{answers}
use Rattle.gfx_needed.specs.Fields.{ids_in}
use Rattle.gfx_needed.specs.NeededIds.{Marks}
use Rattle.gfx_needed.proofs.needed.NeededIds.mark_commands.Given as goal

-- what the commands so far name was marked
abbrev pub invariant-commands : goal.invariant-commands
invariant-commands l = Marks (answers l.tracker) (flat_map ids_in (take l.k ((answers l.tracker).buffer l.cb).commands)) l.fn.self l.self

abbrev pub decreases-commands : goal.decreases-commands
decreases-commands l = length ((answers l.tracker).buffer l.cb).commands - l.k
