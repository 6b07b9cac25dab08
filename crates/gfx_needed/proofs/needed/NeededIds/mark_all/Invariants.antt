use Rattle.std.proofs.Common.{take}
use Rattle.gfx_tracker.specs.Tracker.{answers}
use Rattle.gfx_needed.specs.NeededIds.{Marks}
use Rattle.gfx_needed.proofs.needed.NeededIds.mark_all.Given as goal

-- the ids so far were marked
abbrev pub invariant-ids : goal.invariant-ids
invariant-ids l = Marks (answers l.tracker) (take l.id-index l.ids) l.fn.self l.self
