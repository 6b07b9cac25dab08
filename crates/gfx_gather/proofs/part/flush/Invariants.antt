use Rattle.std.proofs.Common.{◌≡◌, ◌++◌, map, length}
use Rattle.gfx_script.specs.Line.{line_of}
use Rattle.gfx_gather.specs.Gathering.{fills_at}
use Rattle.gfx_gather.proofs.part.flush.Given as goal

abbrev pub invariant-fills : goal.invariant-fills
invariant-fills l = map line_of l.lines.items ++ fills_at l.number l.shadow ≡ map line_of l.initial.lines.items ++ fills_at l.number l.initial.shadow

abbrev pub decreases-fills : goal.decreases-fills
decreases-fills l = length l.shadow
