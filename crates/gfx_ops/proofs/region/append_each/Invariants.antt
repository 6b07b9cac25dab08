use Rattle.std.proofs.Common.{◌≡◌, ◌++◌, map, take}
use Rattle.gfx_ops.proofs.region.append_each.Given as goal

-- the operations of the items so far were appended
abbrev pub invariant-items : goal.invariant-items
invariant-items g l = l.ops ≡ l.fn.ops ++ map (g.M.MakesOp.op_of l.maker) (take l.item-index l.items)
