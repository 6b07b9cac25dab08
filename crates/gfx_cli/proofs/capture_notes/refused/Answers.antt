use Rattle.std.proofs.Common.{append_assoc, ◌∙◌}
use Rattle.std.proofs.lemmas.Result.{IfOk-weaker}
use Rattle.gfx_cli.specs.Text.{refused_line}
use Rattle.gfx_cli.proofs.capture_notes.refused.Goals as goal

pub returns : goal.returns
unfolding refused_line
returns c = IfOk-weaker c.format.result _ _ (λ line is. is ∙ rw (c.number-number.ensures, c.name-name.ensures) (simp append_assoc)) c.format.ensures.ok
