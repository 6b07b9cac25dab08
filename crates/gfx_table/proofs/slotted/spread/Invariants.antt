use Rattle.gfx_table.proofs.Spreading.{IsSpread}
use Rattle.gfx_table.proofs.slotted.spread.Given as goal

-- what was in the slots so far is in the wide slots
abbrev pub invariant-slots : goal.invariant-slots
invariant-slots g l = IsSpread l.mask l.displaced l.slots l.wide.items l.slot-index
