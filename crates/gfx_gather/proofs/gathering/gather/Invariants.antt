use Rattle.std.proofs.Common.{◌≡◌, take}
use Rattle.gfx_script.specs.Line.{phases_of}
use Rattle.gfx_shadow.specs.Gathered.{gathered_phases}
use Rattle.gfx_gather.proofs.gathering.gather.Given as goal

abbrev pub invariant-phases : goal.invariant-phases
invariant-phases l = phases_of l.phases.items ≡ gathered_phases (phases_of (take l.phase-index l.fn.script.phases))
