use Rattle.std.proofs.Common.{◌≡◌, List, ap, subst, length, arith}
use Rattle.std.proofs.lemmas.List.{take_all}
use Rattle.gfx_script.specs.declared.line.Line.{Line}
use Rattle.gfx_seats.specs.Desk.{desk_id}
use Rattle.gfx_recorder.specs.Ids.{calls_in}
use Rattle.gfx_recorder.specs.Work.{Puts}
use Rattle.gfx_recorder.proofs.Effects.{on_ok_more, if_err_more}
use Rattle.gfx_recorder.proofs.Going.{puts-none}
use Rattle.gfx_recorder.proofs.LineCalls.{line-ready, line-drew, line-block, line-count, all-ready, all-count, through-line, stopped-line, last-puts, last-stops}
use Rattle.gfx_recorder.proofs.worker.Worker.run_lines.Goals as goal

pub lines-init : goal.lines-init
lines-init g c = record {
  puts = puts-none c.args.self.now c.requires.ready.idle;
  room = let a : length c.args.self.now.buffer.events ≡ 0 = ap length c.requires.ready.empty in omega arith;
}

pub run_line-requires-clause-ready : goal.run_line-requires-clause-ready
run_line-requires-clause-ready g c =
    line-ready c.args.table.now c.args.lines.now c.lines.line-index c.line-item.result c.lines-test.true c.line-item.is (desk_id c.args.capture.now.desk) c.args.self.now c.lines.self c.requires.ready c.lines.invariant.puts

pub run_line-requires-clause-few : goal.run_line-requires-clause-few
run_line-requires-clause-few g c =
    let a = line-count c.args.table.now c.args.lines.now c.lines.line-index c.line-item.result c.lines-test.true c.line-item.is (desk_id c.args.capture.now.desk) c.args.self.now c.lines.self c.requires.ready c.lines.invariant.puts c.requires.start in omega arith

pub run_line-requires-clause-drew : goal.run_line-requires-clause-drew
run_line-requires-clause-drew g c =
    line-drew c.args.table.now c.args.lines.now c.lines.line-index c.line-item.result c.lines-test.true c.line-item.is (desk_id c.args.capture.now.desk) c.args.self.now c.lines.self c.requires.ready c.lines.invariant.puts

pub run_line-requires-clause-block : goal.run_line-requires-clause-block
run_line-requires-clause-block g c =
    line-block c.args.table.now c.args.lines.now c.lines.line-index c.line-item.result c.lines-test.true c.line-item.is (desk_id c.args.capture.now.desk) c.args.self.now c.lines.self c.requires.ready c.lines.invariant.puts

pub returns-in-Err-clause-err : goal.returns-in-Err-clause-err
returns-in-Err-clause-err g c =
    stopped-line c.args.table.now c.args.lines.now c.lines.line-index c.line-item.result c.lines-test.true c.line-item.is c.args.self.now c.lines.self c.run_line.new.self c.lines.invariant.puts c.in-Err.fault c.in-Err.ensures.err

pub lines-preserved : goal.lines-preserved
lines-preserved g c = record {
  puts = through-line c.args.table.now c.args.lines.now c.lines.line-index c.line-item.result c.lines-test.true c.line-item.is c.args.self.now c.lines.self c.run_line.new.self c.lines.invariant.puts c.in_default.ensures.ok;
  room = c.in_default.ensures.room;
}

pub append-requires-clause-ready : goal.append-requires-clause-ready
append-requires-clause-ready g c =
    let table = c.args.table.now in let lines = c.args.lines.now in
    let puts = subst (λ (l : List Line). Puts c.args.self.now (calls_in table l) c.lines.self) (take_all c.lines.line-index lines c.lines-test.false) c.lines.invariant.puts in
    all-ready table lines (desk_id c.args.capture.now.desk) c.args.self.now c.lines.self c.requires.ready puts

pub append-requires-clause-few : goal.append-requires-clause-few
append-requires-clause-few g c =
    let table = c.args.table.now in let lines = c.args.lines.now in
    let puts = subst (λ (l : List Line). Puts c.args.self.now (calls_in table l) c.lines.self) (take_all c.lines.line-index lines c.lines-test.false) c.lines.invariant.puts in
    let count = all-count table lines (desk_id c.args.capture.now.desk) c.args.self.now c.lines.self c.requires.ready puts c.requires.start in omega arith

pub returns-clause-ok : goal.returns-clause-ok
returns-clause-ok g c =
    let table = c.args.table.now in let lines = c.args.lines.now in
    let puts = subst (λ (l : List Line). Puts c.args.self.now (calls_in table l) c.lines.self) (take_all c.lines.line-index lines c.lines-test.false) c.lines.invariant.puts in
    on_ok_more c.append.result _ _ (last-puts c.args.self.now c.lines.self c.append.new.self (calls_in table lines) puts) c.append.ensures.ok

pub returns-clause-err : goal.returns-clause-err
returns-clause-err g c =
    let table = c.args.table.now in let lines = c.args.lines.now in
    let puts = subst (λ (l : List Line). Puts c.args.self.now (calls_in table l) c.lines.self) (take_all c.lines.line-index lines c.lines-test.false) c.lines.invariant.puts in
    if_err_more c.append.result _ _ (last-stops c.args.self.now c.lines.self c.append.new.self (calls_in table lines) puts) c.append.ensures.err
