use Rattle.std.proofs.Common.{sym, ◌∙◌, arith}
use Rattle.std.proofs.lemmas.Fmt.{decimal_injective}
use Rattle.gfx_words.proofs.command.Command.make.Goals as goal
use Rattle.gfx_words.proofs.command.Command.make.Goals.{else-frames-ge3-via-then-frames-ge3+else-frames-le1000, else-frames-ge3-via-else-frames-ge3}

pub returns-else-frames-ge3-clause-none : goal.returns-else-frames-ge3-clause-none
returns-else-frames-ge3-clause-none c e n low high is =
    let same = decimal_injective c.in_ok-frames.frames n c.in_ok-frames.ensures.small (omega arith) (sym c.in_ok-frames.ensures.some ∙ is) in
    elim c.else-frames-ge3.branch [
      | else-frames-ge3-via-then-frames-ge3+else-frames-le1000 w ↦ absurd (omega arith)
      | else-frames-ge3-via-else-frames-ge3 w ↦ absurd (omega arith)
    ]
