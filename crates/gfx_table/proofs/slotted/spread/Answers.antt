use Rattle.std.proofs.Common.{sym}
use Rattle.gfx_table.proofs.Spreading.{spread_start, spread_past, spread_more}
use Rattle.gfx_table.proofs.slotted.spread.Goals as goal
use Rattle.gfx_table.proofs.slotted.spread.Goals.{in-Some+in_ok-place, in_default}

pub slots-init : goal.slots-init
slots-init g c = spread_start c.args.mask _ c.args.slots.now c.args.wide.now.items c.requires.free

pub slots-preserved : goal.slots-preserved
slots-preserved g c = elim c.match-entry.branch [
  | in-Some+in_ok-place w ↦
      rw (w.wide-is, w.displaced-is)
      (spread_more c.args.mask c.slots.displaced w.displaces-displaced.result c.args.slots.now c.slots.wide.items w.spread_one.new.wide.items c.slots.slot-index w.first_of-first.result w.in_ok-place.place w.in-Some.entry
      c.requires.once c.slots-test.true (rw (sym w.in-Some.ensures.value) at c.slot-item.is) w.first_of-first.ensures w.in_ok-place.ensures.group w.in_ok-place.ensures.inside w.in_ok-place.ensures.free w.in_ok-place.ensures.put
      w.displaces-displaced.ensures c.slots.invariant)
  | in_default w ↦
      rw (w.wide-is, w.displaced-is)
      (spread_past c.args.mask c.slots.displaced c.args.slots.now c.slots.wide.items c.slots.slot-index c.slots-test.true (rw (sym w.in_default.ensures.value) at c.slot-item.is) c.slots.invariant)
]
