use Rattle.std.proofs.Common.{◌≡◌, ◌∙◌, ◌<◌, List, map, length, get_or, ap, subst}
use Rattle.gfx_script.specs.declared.script.Part.{Part}
use Rattle.gfx_script.specs.Line.{line_of}
use Rattle.gfx_recorder.proofs.Threads.{part-found, part-passed}
use Rattle.gfx_recorder.proofs.lines.lines_of.Goals as goal

pub returns-then-part-thread : goal.returns-then-part-thread
returns-then-part-thread c =
    let i = c.parts.part-index in let p = c.part-item.result in let all = c.items-part-items.ensures in
    ap (map line_of) c.items.ensures
    ∙ part-found c.args.phase.now.threads i p (subst (λ (l : List Part). i < length l) all c.parts-test.true) (subst (λ (l : List Part). p ≡ get_or l i p) all c.part-item.is)
    c.args.thread c.parts.invariant c.if-part-thread.true

pub parts-preserved : goal.parts-preserved
parts-preserved c =
    let i = c.parts.part-index in let p = c.part-item.result in let all = c.items-part-items.ensures in
    part-passed c.args.phase.now.threads i p (subst (λ (l : List Part). i < length l) all c.parts-test.true) (subst (λ (l : List Part). p ≡ get_or l i p) all c.part-item.is)
    c.args.thread c.parts.invariant c.if-part-thread.false
