use Rattle.std.proofs.Common.{take, map}
use Rattle.gfx_script.specs.Line.{part_of}
use Rattle.gfx_recorder.specs.Drawn.{AllDrew}
use Rattle.gfx_recorder.proofs.drawing.draw_parts.Given as goal

-- the ids of the parts so far
abbrev pub invariant-parts : goal.invariant-parts
invariant-parts l = AllDrew (take l.part-index (map part_of l.parts)) l.fn.workers l.fn.table.items l.workers l.table.items
