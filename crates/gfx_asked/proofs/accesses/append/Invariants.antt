use Rattle.std.proofs.Common.{◌≡◌, ◌++◌, flat_map, take}
use Rattle.gfx_asked.specs.Accesses.{accesses_of_op}
use Rattle.gfx_asked.proofs.accesses.append.Given as goal

abbrev pub invariant-ops : goal.invariant-ops
invariant-ops l = l.items.items ≡ l.initial.items.items ++ flat_map (accesses_of_op l.given) (take l.op-index l.ops)
