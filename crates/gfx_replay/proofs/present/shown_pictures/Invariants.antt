use Rattle.std.proofs.Common.{◌≡◌, take, filter_map}
use Rattle.gfx_tracker.specs.Tracker.{answers}
use Rattle.gfx_replay.specs.Shown.{shown_by}
use Rattle.gfx_replay.proofs.present.shown_pictures.Given as goal

abbrev pub invariant-loop-present : goal.invariant-loop-present
invariant-loop-present l = l.pictures.items ≡ filter_map (shown_by (answers l.tracker)) (take l.present-index l.presents)
