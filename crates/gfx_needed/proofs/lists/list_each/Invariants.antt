use Rattle.std.proofs.Common.{◌≡◌, ◌++◌, flat_map, take}
use Rattle.gfx_needed.proofs.lists.list_each.Given as goal

-- the ids of the items so far were appended
abbrev pub invariant-items : goal.invariant-items
invariant-items g l = l.ids.items ≡ l.fn.ids.items ++ flat_map g.T.HasIds.listed (take l.item-index l.items)
