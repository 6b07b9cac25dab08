use Rattle.std.proofs.Common.{arith}
use Rattle.gfx_shadow.proofs.StretchBytes.{joined}
use Rattle.gfx_shadow.proofs.stretch.Stretch.join.Goals as goal

pub returns-clause-bytes : goal.returns-clause-bytes
returns-clause-bytes c =
    let s = c.args.self.now in
    let end = c.join_before.ensures.end in
    joined s c.args.other.now _ _ c.join_before.ensures.before c.join_before.ensures.from
    (λ i l. c.join_behind.ensures.before i (omega (arith, l, end))) (λ i l. c.join_behind.ensures.from i (omega (arith, l, end)))
