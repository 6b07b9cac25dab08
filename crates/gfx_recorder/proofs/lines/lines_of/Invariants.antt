use Rattle.std.proofs.Common.{◌≡◌, drop, map}
use Rattle.gfx_script_model.specs.Runs.{lines_in}
use Rattle.gfx_script.specs.Line.{part_of}
use Rattle.gfx_recorder.proofs.lines.lines_of.Given as goal

-- the thread has no part among those so far
abbrev pub invariant-parts : goal.invariant-parts
invariant-parts l = lines_in l.thread (map part_of l.phase.threads) ≡ lines_in l.thread (drop l.part-index (map part_of l.phase.threads))
