use Rattle.std.proofs.Common.{◌∙◌, ap, arith, bit_or, get_or, below_more}
use Rattle.std.specs.Int.Bits.{or_zero_l}
use Rattle.std.proofs.lemmas.Nat.{le_or_l, le_or_r}
use Rattle.gfx_pages.proofs.scan.is_zero.Goals as goal

pub loop-byte-preserved : goal.loop-byte-preserved
loop-byte-preserved c =
    let seen = c.loop-byte.seen in
    let i = c.loop-byte.byte-index in
    let byte = get_or c.args.bytes.now i 0 in (
      λ e.
          let a = le_or_l seen byte in let b = le_or_r seen byte in
          below_more _ _ (c.loop-byte.invariant.0 (omega arith)) (omega arith),
      λ z.
          let a = c.loop-byte.invariant.1 (λ k h. z k (omega arith)) in
          let b = z i (omega arith) in
          ap (λ x. bit_or x byte) a ∙ ap (bit_or 0) b ∙ or_zero_l 0,
    )
