use Rattle.std.proofs.Common.{◌≡◌, ◌≤◌, false, List, map, sym, subst, arith}
use Rattle.std.specs.List.{AllByRecursion}
use Rattle.std.proofs.lemmas.List.{length-map, take_all}
use Rattle.gfx_script_model.specs.Scripts.{has_thread}
use Rattle.gfx_script.specs.declared.script.Part.{Part as ScriptPart}
use Rattle.gfx_script.specs.Line.{part_of, phase_of, phases_of}
use Rattle.gfx_recorder.proofs.Threads.{phase-low, phase-none}
use Rattle.gfx_recorder.proofs.lines.thread_count.Goals as goal

pub threads_through-count-requires-clause-few : goal.threads_through-count-requires-clause-few
threads_through-count-requires-clause-few c =
    subst (λ (l : List ScriptPart). AllByRecursion (λ q. q.thread ≤ 63) (map part_of l)) (sym c.items.ensures)
    (phase-low c.args.phases.now c.phases.phase-index c.phase-item.result c.phases-test.true c.phase-item.is c.requires)

pub phases-preserved : goal.phases-preserved
phases-preserved c =
    let e = c.threads_through-count.ensures in
    let some = c.phases.invariant.some in let more = e.more in record {
      some = omega arith;
      few = e.few;
      above = λ t over. phase-none c.args.phases.now c.phases.phase-index c.phase-item.result c.phases-test.true c.phase-item.is t
          (c.phases.invariant.above t (omega arith)) (subst (λ (l : List ScriptPart). has_thread t (map part_of l) ≡ false) c.items.ensures (e.above t over));
    }

pub returns-clause-above : goal.returns-clause-above
returns-clause-above c = λ t over.
    subst (AllByRecursion (λ phase. has_thread t phase ≡ false))
    (take_all c.phases.phase-index (phases_of c.args.phases.now) (let a = length-map c.args.phases.now phase_of in let b = c.phases-test.false in omega arith)) (c.phases.invariant.above t over)
