use Rattle.std.proofs.Common.{◌≡◌, ◌∙◌, map, sym, ap, subst}
use Rattle.gfx_script_model.specs.Runs.{lines_in}
use Rattle.gfx_script.specs.Line.{line_of, phase_of}
use Rattle.gfx_seats.specs.Desk.{desk_id}
use Rattle.gfx_recorder.specs.declared.worker.Worker.{Worker}
use Rattle.gfx_recorder.specs.Ids.{id_in}
use Rattle.gfx_recorder.specs.Work.{hand_of, CanRun, Ran}
use Rattle.gfx_recorder.proofs.Running.{ran-by}
use Rattle.gfx_recorder.proofs.worker.Worker.run.Goals as goal

pub run_lines-answer-requires-clause-ready : goal.run_lines-answer-requires-clause-ready
run_lines-answer-requires-clause-ready g c =
    let is : map line_of c.lines_of-lines.result.now ≡ lines_in (hand_of c.args.self.now).thread (phase_of c.args.phase.now) = c.lines_of-lines.ensures ∙ ap (λ t. lines_in t (phase_of c.args.phase.now)) c.thread.ensures in
    let r = subst (λ ls. CanRun (desk_id c.args.capture.now.desk) (id_in c.args.table.now) ls c.args.self.now) (sym is) c.requires in
    record { desk_is = r.desk_is; idle = r.idle; minor = r.minor; empty = r.empty; drew = r.drew; blocks = r.blocks }

pub returns : goal.returns
returns g c =
    let is : map line_of c.lines_of-lines.result.now ≡ lines_in (hand_of c.args.self.now).thread (phase_of c.args.phase.now) = c.lines_of-lines.ensures ∙ ap (λ t. lines_in t (phase_of c.args.phase.now)) c.thread.ensures in
    let e = c.run_lines-answer.ensures in
    let after : Worker = record c.run_lines-answer.new.self { buffer = c.clear.new.self; end = c.end_by-self.result } in
    subst (λ ls. Ran (id_in c.args.table.now) ls c.args.self.now after) is
    (ran-by (id_in c.args.table.now) (map line_of c.lines_of-lines.result.now) c.args.self.now c.run_lines-answer.new.self c.clear.new.self c.end_by-self.result c.requires.empty c.clear.ensures.empty
    c.run_lines-answer.result e.ok e.empty e.err c.clear.ensures.minor c.end_by-self.ensures)
