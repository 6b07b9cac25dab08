use Rattle.std.proofs.Common.{◌∙◌, ap, sym, arith, inl, inr}
use Rattle.std.proofs.lemmas.Bool.{cases_lt}
use Rattle.gfx_shadow.specs.Stretch.{stretch_byte}
use Rattle.gfx_shadow.proofs.StretchBytes.{over_part, over_beside, behind_is_none}
use Rattle.gfx_shadow.proofs.stretch.Stretch.join_behind.Goals as goal

pub returns-then-self-other-clause-before : goal.returns-then-self-other-clause-before
returns-then-self-other-clause-before c = λ i l.
    let s = c.args.self.now in
    ap (λ f. f i) c.write.ensures.bytes ∙ over_beside s.end c.part.result.now (stretch_byte s) i (inl l)

pub returns-then-self-other-clause-from : goal.returns-then-self-other-clause-from
returns-then-self-other-clause-from c = λ i l.
    let s = c.args.self.now in let o = c.args.other.now in
    let long = c.part.ensures.length in let low = c.if-self-other.true in
    elim (cases_lt i o.end) [
      | inr u ↦ ap (λ f. f i) c.write.ensures.bytes ∙ over_beside s.end c.part.result.now (stretch_byte s) i (inr (omega (arith, u, long, low))) ∙ behind_is_none s i l ∙ sym (behind_is_none o i u)
      | inl u ↦ ap (λ f. f i) c.write.ensures.bytes ∙ over_part s.end c.part.result.now (stretch_byte s) (stretch_byte o) i (λ k h. c.part.ensures.same k (omega (arith, h, long))) l (omega (arith, u, long, low))
    ]

pub returns-else-self-other-clause-from : goal.returns-else-self-other-clause-from
returns-else-self-other-clause-from c = λ i l.
    let s = c.args.self.now in let o = c.args.other.now in
    behind_is_none s i l ∙ sym (behind_is_none o i (let h = c.if-self-other.false in omega (arith, l, h)))
