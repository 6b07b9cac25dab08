use Rattle.std.proofs.Common.{append_assoc, ◌∙◌}
use Rattle.std.proofs.lemmas.Result.{IfOk-weaker}
use Rattle.gfx_cli.specs.Text.{no_such_frame_line}
use Rattle.gfx_cli.proofs.notes.no_such_frame.Goals as goal

pub returns : goal.returns
unfolding no_such_frame_line
returns c = IfOk-weaker c.format.result _ _ (λ line is. is ∙ simp append_assoc) c.format.ensures.ok
