use Rattle.std.proofs.Common.{sym, subst}
use Rattle.std.proofs.lemmas.List.Elements.{All-get_or}
use Rattle.gfx_script.specs.Line.{phase_of}
use Rattle.gfx_script_model.specs.Runs.{lines_in}
use Rattle.gfx_seats.specs.Desk.{desk_id}
use Rattle.gfx_recorder.specs.declared.worker.Worker.{Worker}
use Rattle.gfx_recorder.specs.Ids.{id_in}
use Rattle.gfx_recorder.specs.Work.{hand_of, CanRun, Ran}
use Rattle.gfx_recorder.proofs.phase.run_phase.Goals as goal

pub for_each_mut-requires-clause-accepts : goal.for_each_mut-requires-clause-accepts
for_each_mut-requires-clause-accepts g c κs within = λ i worker less is.
    let can = λ (w : Worker). CanRun (desk_id c.args.capture.now.desk) (id_in c.args.table.now) (lines_in (hand_of w).thread (phase_of c.args.phase.now)) w in
    subst can (sym is) (All-get_or can c.args.workers.now i worker.now less c.requires.able)

pub returns : goal.returns
returns g c i d less =
    let h = (c.for_each_mut.ensures i d less).1 in
    subst (λ (p : Worker × Worker). Ran (id_in c.args.table.now) (lines_in (hand_of p.0).thread (phase_of c.args.phase.now)) p.0 p.1) (λ j. (h.argument_is j, h.left j)) h.call
