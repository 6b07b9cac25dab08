use Rattle.std.proofs.Common.{◌≡◌, ℕ, ◌-◌, ◌^◌, ◌++◌, List}
use Rattle.std.specs.Prelude.{slice_get}
use Rattle.gfx_tracker.proofs.Seeking.{sought_above}
use Rattle.gfx_tracker.proofs.sought.Sought.at.Given as goal

-- the place among all is what is left of it among those above
abbrev pub invariant-ids : goal.invariant-ids
invariant-ids l = (more : List ℕ) → slice_get (sought_above l.objects l.owner l.self 0 ++ more) l.place ≡ slice_get (sought_above l.objects l.owner l.self l.after ++ more) l.left

abbrev pub decreases-ids : goal.decreases-ids
decreases-ids l = 2 ^ 64 - l.after
