use Rattle.std.proofs.Common.{◌≡◌, take, map, length}
use Rattle.gfx_script.specs.Line.{line_of}
use Rattle.gfx_seats.specs.Seat.{hand, desk_of}
use Rattle.gfx_script_law.specs.Playable.{names_of}
use Rattle.gfx_recorder.specs.Drawn.{Drew}
use Rattle.gfx_recorder.proofs.drawing.draw_lines.Given as goal

-- the ids of the lines so far
abbrev pub invariant-lines : goal.invariant-lines
invariant-lines l = record {
  desk : desk_of l.pass ≡ desk_of l.fn.pass;
  drew : Drew (length (names_of (map line_of (take l.line-index l.lines)))) (hand l.fn.pass) l.fn.table.items (hand l.pass) l.table.items;
}
