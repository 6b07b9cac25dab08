use Rattle.std.proofs.Common.{◌-◌, ◌≤◌, map}
use Rattle.std.specs.List.{range_with_len}
use Rattle.gfx_asked.specs.Asked.{questions, AreSame}
use Rattle.gfx_asked.proofs.Stand.{before_changes}
use Rattle.gfx_asked.proofs.Rows.{row_of}
use Rattle.gfx_asked.proofs.asked.Asked.copy_rows.Given as goal

abbrev pub invariant-rows : goal.invariant-rows
invariant-rows l = record {
  within : l.row ≤ l.copy.rows;
  same : AreSame (questions l.self) (before_changes (map (row_of l.copy) (range_with_len l.row (l.copy.rows - l.row))) (questions l.initial.self));
}

abbrev pub decreases-rows : goal.decreases-rows
decreases-rows l = l.row
