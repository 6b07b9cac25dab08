use Rattle.std.proofs.Common.{◌≡◌, map, take}
use Rattle.gfx_script.specs.Line.{part_of}
use Rattle.gfx_shadow.specs.Gathered.{gathered_part}
use Rattle.gfx_gather.proofs.gathering.gather_phase.Given as goal

abbrev pub invariant-parts : goal.invariant-parts
invariant-parts l = map part_of l.parts.items ≡ map gathered_part (map part_of (take l.part-index l.fn.phase.threads))
