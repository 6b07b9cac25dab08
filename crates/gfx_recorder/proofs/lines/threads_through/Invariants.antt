use Rattle.std.proofs.Common.{◌≡◌, ◌≤◌, ℕ, false, take, map}
use Rattle.gfx_script_model.specs.Scripts.{has_thread}
use Rattle.gfx_script.specs.Line.{part_of}
use Rattle.gfx_recorder.proofs.lines.threads_through.Given as goal

-- the threads of the parts so far are below it
abbrev pub invariant-parts : goal.invariant-parts
invariant-parts l = record {
  more : l.count ≤ l.greatest;
  few : l.greatest ≤ 64;
  above : (t : ℕ) → l.greatest ≤ t → has_thread t (take l.part-index (map part_of l.parts)) ≡ false;
}
