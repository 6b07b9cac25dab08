use Rattle.std.proofs.Common.{◌≡◌, ◌∙◌, ◌≤◌, false, List, length, sym, ap, subst}
use Rattle.std.specs.List.{AllByRecursion}
use Rattle.gfx_script_model.specs.Scripts.{has_thread}
use Rattle.gfx_script.specs.declared.script.Phase.{Phase}
use Rattle.gfx_script.specs.Line.{phases_of}
use Rattle.gfx_seats.specs.Desk.{desk_id}
use Rattle.gfx_run_law.specs.Pieces.{ArePhases}
use Rattle.gfx_recorder.specs.Outcomes.{IsOutcome}
use Rattle.gfx_recorder.specs.Progress.{AreNew}
use Rattle.gfx_recorder.proofs.Beginning.{all-new}
use Rattle.gfx_recorder.proofs.Beginning as beginning
use Rattle.gfx_recorder.proofs.Concluding.{completes}
use Rattle.gfx_recorder.proofs.Concluding as concluding
use Rattle.gfx_recorder.proofs.Threads.{are-phases}
use Rattle.gfx_recorder.proofs.start.record_script.Goals as goal

pub thread_count-threads-requires : goal.thread_count-threads-requires
thread_count-threads-requires g c =
    let m = c.args.script.now.minor in let phases = phases_of c.args.script.now.phases in
    subst (λ (l : List Phase). AllByRecursion (AllByRecursion (λ p. p.thread ≤ 63)) (phases_of l)) (sym c.items-phases.ensures) c.requires.threads

pub new-requires-clause-version : goal.new-requires-clause-version
new-requires-clause-version g c = c.requires.version

pub workers_of-requires : goal.workers_of-requires
workers_of-requires g c = c.requires.version

pub run_workers-requires-clause-playable : goal.run_workers-requires-clause-playable
run_workers-requires-clause-playable g c κs within = c.requires

pub run_workers-requires-clause-phases : goal.run_workers-requires-clause-phases
run_workers-requires-clause-phases g c κs within =
    let m = c.args.script.now.minor in let phases = phases_of c.args.script.now.phases in
    let n = c.thread_count-threads.result in let desk = desk_id c.in-Ok.capture.desk in let made = c.in-Ok.ensures in
    let long : length c.in-Ok-workers_of.workers.items ≡ n = ap length c.in-Ok-workers_of.ensures ∙ beginning.long m n desk c.in-Ok.passes.items made.capture made.passes in
    subst (λ k. ArePhases k phases) (sym long) (are-phases n phases c.requires.apart
    (λ t over. subst (λ (l : List Phase). AllByRecursion (λ phase. has_thread t phase ≡ false) (phases_of l)) c.items-phases.ensures (c.thread_count-threads.ensures.above t over)))

pub run_workers-requires-clause-new : goal.run_workers-requires-clause-new
run_workers-requires-clause-new g c κs within =
    let m = c.args.script.now.minor in let n = c.thread_count-threads.result in let desk = desk_id c.in-Ok.capture.desk in let made = c.in-Ok.ensures in
    subst (AreNew m desk) (sym c.in-Ok-workers_of.ensures) (all-new m n desk c.in-Ok.passes.items made.capture made.passes)

pub close-requires-clause-phases : goal.close-requires-clause-phases
close-requires-clause-phases g c =
    let m = c.args.script.now.minor in let phases = phases_of c.args.script.now.phases in
    let n = c.thread_count-threads.result in let desk = desk_id c.in-Ok.capture.desk in let made = c.in-Ok.ensures in let ran = c.in-Ok-run_workers in
    let long : length c.in-Ok-workers_of.workers.items ≡ n = ap length c.in-Ok-workers_of.ensures ∙ beginning.long m n desk c.in-Ok.passes.items made.capture made.passes in
    let same : length ran.workers.items ≡ n = concluding.long m desk (length c.in-Ok-workers_of.workers.items) phases ran.table.items ran.workers.items ran.all ran.ensures ∙ long in
    subst (λ (l : List Phase). ArePhases (length ran.workers.items) (phases_of l)) (sym c.items-phases.ensures)
    (subst (λ k. ArePhases k phases) (sym same) (are-phases n phases c.requires.apart
    (λ t over. subst (λ (l : List Phase). AllByRecursion (λ phase. has_thread t phase ≡ false) (phases_of l)) c.items-phases.ensures (c.thread_count-threads.ensures.above t over))))

pub returns-in-Ok-run_workers-clause-complete : goal.returns-in-Ok-run_workers-clause-complete
returns-in-Ok-run_workers-clause-complete g c =
    let m = c.args.script.now.minor in
    completes m (phases_of c.args.script.now.phases) c.close.result (subst (λ (l : List Phase). IsOutcome m (phases_of l) c.close.result) c.items-phases.ensures c.close.ensures.outcome)
