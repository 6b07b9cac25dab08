use Rattle.std.proofs.Common.{◌≡◌, ◌≤◌, ◌++◌, ◌-◌, ◌^◌, length}
use Rattle.gfx_table.specs.Rows.{ids, ids_above}
use Rattle.gfx_table.proofs.ordered.Table.push_ids.Given as goal

-- the ids above the last one are left, and none of the others went
abbrev pub invariant-rows : goal.invariant-rows
invariant-rows g l = (l.fn.ids.items ++ ids l.self.map ≡ l.ids.items ++ ids_above l.after l.self.map) × (length l.fn.ids.items ≤ length l.ids.items)

abbrev pub decreases-rows : goal.decreases-rows
decreases-rows g l = 2 ^ 64 - l.after
