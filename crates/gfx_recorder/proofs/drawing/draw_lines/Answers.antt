use Rattle.std.proofs.Common.{◌≡◌, ◌∙◌, ◌+◌, map, ap, subst, take, length, arith}
use Rattle.gfx_script.specs.Line.{line_of}
use Rattle.gfx_seats.specs.Seat.{hand}
use Rattle.gfx_script_law.specs.Playable.{names_of}
use Rattle.gfx_recorder.specs.Drawn.{Drew}
use Rattle.gfx_recorder.proofs.Draws.{drew-both, drew-count, names-next, names-first}
use Rattle.gfx_recorder.proofs.drawing.draw_lines.Goals as goal

pub draw_ids-requires-clause-few : goal.draw_ids-requires-clause-few
draw_ids-requires-clause-few c =
    let i = c.lines.line-index in let l = c.line-item.result in
    let next = names-next c.args.lines.now i l c.lines-test.true c.line-item.is in let first = names-first c.args.lines.now (i + 1) in
    let drawn = drew-count (length (names_of (map line_of (take i c.args.lines.now)))) (hand c.args.pass.now) (hand c.lines.pass) c.args.table.now.items c.lines.table.items c.lines.invariant.drew in
    let count : length c.items.result.now ≡ length l.defines = ap length c.items.ensures in
    let few = c.requires.few in omega arith

pub lines-preserved : goal.lines-preserved
lines-preserved c =
    let i = c.lines.line-index in let l = c.line-item.result in
    let next = names-next c.args.lines.now i l c.lines-test.true c.line-item.is in
    let count : length c.items.result.now ≡ length l.defines = ap length c.items.ensures in
    let so-far = length (names_of (map line_of (take i c.args.lines.now))) in
    let all : so-far + length c.items.result.now ≡ length (names_of (map line_of (take (i + 1) c.args.lines.now))) = omega arith in record {
      desk = c.draw_ids.ensures.desk ∙ c.lines.invariant.desk;
      drew = subst (λ k. Drew k (hand c.args.pass.now) c.args.table.now.items (hand c.draw_ids.new.pass) c.draw_ids.new.table.items) all
          (drew-both so-far (length c.items.result.now) (hand c.args.pass.now) (hand c.lines.pass) (hand c.draw_ids.new.pass) c.args.table.now.items c.lines.table.items c.draw_ids.new.table.items c.lines.invariant.drew c.in_ok-draw_ids.ensures.drew);
    }
