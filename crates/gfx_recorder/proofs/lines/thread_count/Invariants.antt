use Rattle.std.proofs.Common.{◌≡◌, ◌≤◌, ℕ, false, take}
use Rattle.std.specs.List.{AllByRecursion}
use Rattle.gfx_script_model.specs.Scripts.{has_thread}
use Rattle.gfx_script.specs.Line.{phases_of}
use Rattle.gfx_recorder.proofs.lines.thread_count.Given as goal

-- the threads of the phases so far are below it
abbrev pub invariant-phases : goal.invariant-phases
invariant-phases l = record {
  some : 1 ≤ l.count;
  few : l.count ≤ 64;
  above : (t : ℕ) → l.count ≤ t → AllByRecursion (λ phase. has_thread t phase ≡ false) (take l.phase-index (phases_of l.phases));
}
