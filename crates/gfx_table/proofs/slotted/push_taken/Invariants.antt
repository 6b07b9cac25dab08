use Rattle.std.proofs.Common.{◌≡◌, ◌++◌, take}
use Rattle.std.specs.Prelude.{map as each}
use Rattle.gfx_table.specs.Slotted.{filled}
use Rattle.gfx_table.proofs.slotted.push_taken.Given as goal

-- the ids in the slots so far are appended
abbrev pub invariant-slots : goal.invariant-slots
invariant-slots g l = l.ids.items ≡ l.fn.ids.items ++ each (λ e. e.0) (filled (take l.slot-index l.slots))
