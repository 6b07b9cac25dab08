use Rattle.std.proofs.Common.{◌∙◌, ap, sym, arith, inl, inr}
use Rattle.std.proofs.lemmas.Bool.{cases_lt}
use Rattle.gfx_shadow.specs.Stretch.{stretch_byte}
use Rattle.gfx_shadow.proofs.StretchBytes.{over_part, over_beside, before_is_none}
use Rattle.gfx_shadow.proofs.stretch.Stretch.join_before.Goals as goal

pub returns-then-other-self-clause-before : goal.returns-then-other-self-clause-before
returns-then-other-self-clause-before c = λ i l.
    let s = c.args.self.now in let o = c.args.other.now in
    let long = c.part.ensures.length in let low = c.if-other-self.true in
    elim (cases_lt i o.start) [
      | inl u ↦ ap (λ f. f i) c.write.ensures.bytes ∙ over_beside o.start c.part.result.now (stretch_byte s) i (inl u) ∙ before_is_none s i l ∙ sym (before_is_none o i u)
      | inr u ↦ ap (λ f. f i) c.write.ensures.bytes ∙ over_part o.start c.part.result.now (stretch_byte s) (stretch_byte o) i (λ k h. c.part.ensures.same k (omega (arith, h, long))) u (omega (arith, l, long, low))
    ]

pub returns-then-other-self-clause-from : goal.returns-then-other-self-clause-from
returns-then-other-self-clause-from c = λ i l.
    let s = c.args.self.now in let o = c.args.other.now in
    let long = c.part.ensures.length in let low = c.if-other-self.true in
    ap (λ f. f i) c.write.ensures.bytes ∙ over_beside o.start c.part.result.now (stretch_byte s) i (inr (omega (arith, l, long, low)))

pub returns-else-other-self-clause-before : goal.returns-else-other-self-clause-before
returns-else-other-self-clause-before c = λ i l.
    let s = c.args.self.now in let o = c.args.other.now in
    before_is_none s i l ∙ sym (before_is_none o i (let h = c.if-other-self.false in omega (arith, l, h)))
