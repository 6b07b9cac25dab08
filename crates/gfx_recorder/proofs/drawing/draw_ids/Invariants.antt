use Rattle.std.proofs.Common.{◌≡◌}
use Rattle.gfx_seats.specs.Seat.{hand, desk_of}
use Rattle.gfx_recorder.specs.Drawn.{Drew}
use Rattle.gfx_recorder.proofs.drawing.draw_ids.Given as goal

-- the ids so far
abbrev pub invariant-ids : goal.invariant-ids
invariant-ids l = record {
  desk : desk_of l.pass ≡ desk_of l.fn.pass;
  drew : Drew l.counter (hand l.fn.pass) l.fn.table.items (hand l.pass) l.table.items;
}
