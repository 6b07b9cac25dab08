use Rattle.std.proofs.Common.{◌≡◌, [], ◌∷◌, ◌++◌, ◌+◌, get_or, map, length, drop, sym, ap, ◌∙◌, arith}
use Rattle.std.proofs.lemmas.List.{drop_all}
use Rattle.gfx_script_model.specs.Scripts as script
use Rattle.gfx_script.specs.Line.{line_of}
use Rattle.gfx_shadow.specs.Gathered.{last_number}
use Rattle.gfx_gather.specs.Gathering.{fills_at}
use Rattle.gfx_gather.proofs.Ahead.{ahead, all_ahead, takes_on, none_left, left_from}
use Rattle.gfx_gather.proofs.part.gather_part.Goals as goal

pub lines-init : goal.lines-init
lines-init c =
    (λ i. map line_of (c.new-lines.ensures.items i) ++ ahead (last_number (map line_of c.args.part.now.lines)) (c.new-shadow.ensures i) (map line_of c.args.part.now.lines))
    ∙ all_ahead (map line_of c.args.part.now.lines)

pub lines-preserved : goal.lines-preserved
lines-preserved c =
    let lines = c.args.part.now.lines in let k = c.lines.line-index in let item = c.line-item.result in let last = last_number (map line_of lines) in
    let left : drop k lines ≡ item ∷ drop (k + 1) lines =
    left_from lines k item (omega (arith, c.lines-test.true, ap length c.items-line-items.ensures)) (c.line-item.is ∙ ap (λ l. get_or l k item) c.items-line-items.ensures) in
    takes_on last (line_of item) (map line_of (drop (k + 1) lines)) c.lines.shadow (map line_of c.lines.lines.items) c.take_line.new.shadow (map line_of c.take_line.new.lines.items) c.in_ok-take_line.ensures
    ∙ (ap (λ l. map line_of c.lines.lines.items ++ ahead last c.lines.shadow (map line_of l)) (sym left) ∙ c.lines.invariant)

pub returns : goal.returns
returns c =
    let lines = c.args.part.now.lines in let last = last_number (map line_of lines) in let before = map line_of c.lines.lines.items in
    let over : drop c.lines.line-index lines ≡ [] = drop_all c.lines.line-index lines (omega (arith, c.lines-test.false, ap length c.items-line-items.ensures)) in
    ap (λ l. let p : script.Part = record { thread = c.args.part.now.thread; lines = l } in p)
    (ap (map line_of) c.of.ensures ∙ (c.in_ok-flush.ensures.lines ∙ (ap (λ n. before ++ fills_at n c.lines.shadow) c.last_number.ensures
    ∙ (ap (λ l. before ++ l) (sym (none_left last c.lines.shadow)) ∙ (ap (λ l. before ++ ahead last c.lines.shadow (map line_of l)) (sym over) ∙ c.lines.invariant)))))
