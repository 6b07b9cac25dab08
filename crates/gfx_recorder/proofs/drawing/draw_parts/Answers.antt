use Rattle.std.proofs.Common.{◌≡◌, ◌∙◌, ◌+◌, ◌<◌, ◌≤◌, ◌^◌, map, sym, ap, subst, take, length, get_or, arith}
use Rattle.std.proofs.lemmas.List.{length-map, take_all}
use Rattle.std.proofs.lemmas.List.Elements.{All-get_or}
use Rattle.gfx_script_model.specs.Scripts.{Part}
use Rattle.gfx_script.specs.Line.{line_of, part_of}
use Rattle.gfx_seats.specs.Desk.{desk_id}
use Rattle.gfx_seats.specs.Seat.{desk_of}
use Rattle.gfx_script_law.specs.Playable.{names_of}
use Rattle.gfx_recorder.specs.declared.worker.Worker.{Worker}
use Rattle.gfx_recorder.specs.Drawn.{OneDrew, AllDrew}
use Rattle.gfx_recorder.specs.Work.{hand_of}
use Rattle.gfx_recorder.proofs.Draws.{few-drawn, names-fit, all-more, table-long}
use Rattle.gfx_recorder.proofs.Phases.{all-by, one-of}
use Rattle.gfx_recorder.proofs.Threads.{part-at, all-at}
use Rattle.gfx_recorder.proofs.drawing.draw_parts.Goals as goal

pub draw_part-requires-clause-desk : goal.draw_part-requires-clause-desk
draw_part-requires-clause-desk c =
    let parts = map part_of c.args.parts.now in let i = c.parts.part-index in let p = c.part-item.result in let less = c.parts-test.true in let is = c.part-item.is in
    let within : i < length parts = (let a = length-map c.args.parts.now part_of in omega arith) in
    let here : get_or parts i (part_of p) ≡ part_of p = part-at c.args.parts.now i p less is in
    let a = c.parts.invariant in
    all-by c.parts.workers (λ w. desk_of w.pass ≡ desk_id c.args.capture.now.desk) (λ k d there.
    let old : k < length c.args.workers.now = (let l = a.len in omega arith) in (a.at k d old).desk_is ∙ All-get_or (λ (w : Worker). desk_of w.pass ≡ desk_id c.args.capture.now.desk) c.args.workers.now k d old c.requires.desk)

pub draw_part-requires-clause-there : goal.draw_part-requires-clause-there
draw_part-requires-clause-there c =
    let parts = map part_of c.args.parts.now in let i = c.parts.part-index in let p = c.part-item.result in let less = c.parts-test.true in let is = c.part-item.is in
    let within : i < length parts = (let a = length-map c.args.parts.now part_of in omega arith) in
    let here : get_or parts i (part_of p) ≡ part_of p = part-at c.args.parts.now i p less is in
    let a = c.parts.invariant in
    let low : (part_of p).thread < length c.args.workers.now = subst (λ (q : Part). q.thread < length c.args.workers.now) here (all-at (λ q. q.thread < length c.args.workers.now) parts i (part_of p) within c.requires.threads) in
    let l = a.len in omega arith

pub draw_part-requires-clause-few : goal.draw_part-requires-clause-few
draw_part-requires-clause-few c =
    let parts = map part_of c.args.parts.now in let i = c.parts.part-index in let p = c.part-item.result in let less = c.parts-test.true in let is = c.part-item.is in
    let within : i < length parts = (let a = length-map c.args.parts.now part_of in omega arith) in
    let here : get_or parts i (part_of p) ≡ part_of p = part-at c.args.parts.now i p less is in
    let a = c.parts.invariant in
    all-by c.parts.workers (λ w. length (hand_of w).drawn + length (names_of (map line_of p.lines)) ≤ 2 ^ 32) (λ k d there.
    let old : k < length c.args.workers.now = (let l = a.len in omega arith) in
    let few = few-drawn (take i parts) c.args.workers.now c.parts.workers c.args.table.now.items c.parts.table.items a k d old (All-get_or (λ (w : Worker). length (hand_of w).drawn < length c.args.table.now.items) c.args.workers.now k d old c.requires.drawn) in
    let fit = names-fit parts c.args.workers.now c.args.table.now.items c.requires.apart c.requires.numbered i (part_of p) within c.parts.workers c.parts.table.items a in
    let long = table-long parts c.args.workers.now c.args.table.now.items c.requires.apart c.requires.numbered i (part_of p) within c.parts.workers c.parts.table.items a in
    let same : length (names_of (get_or parts i (part_of p)).lines) ≡ length (names_of (map line_of p.lines)) = ap (λ (q : Part). length (names_of q.lines)) here in
    let all = c.requires.few in omega arith)

pub parts-preserved : goal.parts-preserved
parts-preserved c =
    let parts = map part_of c.args.parts.now in let i = c.parts.part-index in let p = c.part-item.result in let less = c.parts-test.true in let is = c.part-item.is in
    let within : i < length parts = (let a = length-map c.args.parts.now part_of in omega arith) in
    let here : get_or parts i (part_of p) ≡ part_of p = part-at c.args.parts.now i p less is in
    let a = c.parts.invariant in
    let low : (part_of p).thread < length c.args.workers.now = subst (λ (q : Part). q.thread < length c.args.workers.now) here (all-at (λ q. q.thread < length c.args.workers.now) parts i (part_of p) within c.requires.threads) in
    all-more parts c.args.workers.now c.args.table.now.items c.requires.apart c.requires.numbered i (part_of p) within c.parts.workers c.parts.table.items a c.draw_part.new.workers c.draw_part.new.table.items
    (subst (λ (q : Part). OneDrew q.thread (length (names_of q.lines)) c.parts.workers c.parts.table.items c.draw_part.new.workers c.draw_part.new.table.items) (sym here) c.in_ok-draw_part.ensures)
    (one-of c.args.workers.now (omega arith))

pub returns-clause-drew : goal.returns-clause-drew
returns-clause-drew c =
    let parts = map part_of c.args.parts.now in
    subst (λ ps. AllDrew ps c.args.workers.now c.args.table.now.items c.parts.workers c.parts.table.items)
    (take_all c.parts.part-index parts (let a = length-map c.args.parts.now part_of in let b = c.parts-test.false in omega arith)) c.parts.invariant

pub returns-clause-drawn : goal.returns-clause-drawn
returns-clause-drawn c =
    let a = c.parts.invariant in
    all-by c.parts.workers (λ w. length (hand_of w).drawn < length c.parts.table.items) (λ k d there.
    let old : k < length c.args.workers.now = (let l = a.len in omega arith) in
    few-drawn (take c.parts.part-index (map part_of c.args.parts.now)) c.args.workers.now c.parts.workers c.args.table.now.items c.parts.table.items a k d old
    (All-get_or (λ (w : Worker). length (hand_of w).drawn < length c.args.table.now.items) c.args.workers.now k d old c.requires.drawn))
