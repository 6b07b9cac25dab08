use Rattle.std.proofs.Common.{◌≡◌, ◌++◌, flat_map, take}
use Rattle.gfx_tracker.specs.Tracker.{answers}
use Rattle.gfx_range.specs.Shown.{shown_present}
use Rattle.gfx_range.proofs.shown.push_presents.Given as goal

-- the images of the presents so far were added
abbrev pub invariant-presents : goal.invariant-presents
invariant-presents l = l.accesses ≡ l.fn.accesses ++ flat_map (shown_present (answers l.tracker)) (take l.present-index l.presents)
