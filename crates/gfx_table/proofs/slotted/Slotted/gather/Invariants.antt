use Rattle.std.proofs.Common.{◌≡◌, ◌≤◌}
use Rattle.gfx_table.proofs.slotted.Slotted.gather.Given as goal

-- rows move, and none comes or goes
abbrev pub invariant-ids : goal.invariant-ids
invariant-ids g l = record {
  map : l.self.map ≡ l.fn.self.map;
  spare : l.fn.self.spare ≤ l.self.spare;
}
