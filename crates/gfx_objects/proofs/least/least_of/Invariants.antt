use Rattle.std.proofs.Common.{◌≡◌, None, take}
use Rattle.std.specs.Prelude.{fold}
use Rattle.gfx_objects.specs.Least.{least_with}
use Rattle.gfx_objects.proofs.least.least_of.Given as goal

-- the least of those so far
abbrev pub invariant-ids : goal.invariant-ids
invariant-ids l = l.least ≡ fold (least_with l.after) None (take l.id-index l.ids)
