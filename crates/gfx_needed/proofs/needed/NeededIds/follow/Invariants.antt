use Rattle.std.proofs.Common.{List}
use Rattle.gfx_model.specs.Events.{Event}
use Rattle.gfx_tracker.specs.Tracker.{answers}
use Rattle.gfx_needed.specs.NeededIds.{IsSearched, work}
use Rattle.gfx_needed.proofs.needed.NeededIds.follow.Given as goal

abbrev pub invariant-pending : goal.invariant-pending
invariant-pending l = (range : List Event) → IsSearched (answers l.tracker) range l.fn.self → IsSearched (answers l.tracker) range l.self

abbrev pub decreases-pending : goal.decreases-pending
decreases-pending l = work (answers l.tracker) l.self
