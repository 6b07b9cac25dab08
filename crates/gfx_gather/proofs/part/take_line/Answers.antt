use Rattle.std.proofs.Common.{[], ◌∷◌, ◌++◌, map, sym, ap, ◌∙◌}
use Rattle.std.proofs.lemmas.Result.{on_ok_weaker}
use Rattle.gfx_script.specs.Line.{line_of}
use Rattle.gfx_shadow.specs.Gathered.{held_of, ends_holding}
use Rattle.gfx_gather.proofs.Ahead.{ends_here, stays}
use Rattle.gfx_gather.proofs.part.take_line.Goals.{then-ends_holding+in_ok-flush, else-ends_holding}
use Rattle.gfx_gather.proofs.part.take_line.Goals as goal

pub returns : goal.returns
returns c =
    let same = sym c.in_ok-effect.ensures in let none = ap held_of same ∙ c.in_default.ensures in elim c.if-ends_holding.branch [
      | then-ends_holding+in_ok-flush w ↦
          on_ok_weaker c.push_copy.result
          (λ pushed. ends_here (line_of c.args.line.now) c.args.shadow.now (map line_of c.args.lines.now.items) c.if-ends_holding.shadow (map line_of c.if-ends_holding.lines.items) (map line_of c.push_copy.new.lines.items)
          none (ap ends_holding same ∙ sym w.if-ends_holding.ensures) (w.shadow-is ∙ w.in_ok-flush.ensures.nothing)
          (ap (λ v. map line_of v.items) w.lines-is ∙ w.in_ok-flush.ensures.lines) pushed)
          c.push_copy.ensures
      | else-ends_holding w ↦
          on_ok_weaker c.push_copy.result
          (λ pushed. stays (line_of c.args.line.now) c.args.shadow.now (map line_of c.args.lines.now.items) c.if-ends_holding.shadow (map line_of c.push_copy.new.lines.items)
          none (ap ends_holding same ∙ sym w.if-ends_holding.ensures) w.shadow-is (pushed ∙ ap (λ v. map line_of v.items ++ line_of c.args.line.now ∷ []) w.lines-is))
          c.push_copy.ensures
    ]
