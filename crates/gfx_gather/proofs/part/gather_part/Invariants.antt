use Rattle.std.proofs.Common.{◌≡◌, ◌++◌, map, drop}
use Rattle.gfx_script.specs.Line.{line_of}
use Rattle.gfx_shadow.specs.Gathered.{gathered, last_number}
use Rattle.gfx_gather.proofs.Ahead.{ahead}
use Rattle.gfx_gather.proofs.part.gather_part.Given as goal

abbrev pub invariant-lines : goal.invariant-lines
invariant-lines l = map line_of l.lines.items ++ ahead (last_number (map line_of l.fn.part.lines)) l.shadow (map line_of (drop l.line-index l.fn.part.lines)) ≡ gathered (map line_of l.fn.part.lines)
