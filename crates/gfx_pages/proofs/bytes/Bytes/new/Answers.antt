use Rattle.std.proofs.Common.{arith, lit<, ◌%◌, ◌∙◌, ap}
use Rattle.gfx_pages.proofs.Paged.{whole-paged, whole-bytes, rest-paged, rest-bytes}
use Rattle.gfx_pages.proofs.bytes.Bytes.new.Goals as goal
use Rattle.gfx_pages.proofs.bytes.Bytes.new.Goals.{then-last-gt0+in_ok-push-2, else-last-gt0}

pub invariant_of-result : goal.invariant_of-result
invariant_of-result c =
    elim c.if-last-gt0.branch [
      | then-last-gt0+in_ok-push-2 w ↦
          rest-paged 65536 c.loop-i._i (c.args.length % 65536) c.args.length _ _ c.loop-i.invariant (ap (λ v. v.items) w.pages-is ∙ w.in_ok-push-2.ensures.items) (omega arith) (omega arith) (omega arith)
      | else-last-gt0 w ↦ whole-paged 65536 c.loop-i._i c.args.length _ (lit< tt) (ap (λ v. v.items) w.pages-is ∙ c.loop-i.invariant) (omega arith)
    ]

pub returns : goal.returns
returns c =
    elim c.if-last-gt0.branch [
      | then-last-gt0+in_ok-push-2 w ↦
          rest-bytes 65536 c.loop-i._i (c.args.length % 65536) c.args.length _ _ c.loop-i.invariant (ap (λ v. v.items) w.pages-is ∙ w.in_ok-push-2.ensures.items) (omega arith)
      | else-last-gt0 w ↦ whole-bytes 65536 c.loop-i._i c.args.length _ (ap (λ v. v.items) w.pages-is ∙ c.loop-i.invariant) (omega arith)
    ]
