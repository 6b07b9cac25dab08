use Rattle.std.proofs.Common.{append_assoc, ◌∙◌}
use Rattle.std.proofs.lemmas.Result.{IfOk-weaker}
use Rattle.gfx_cli.specs.Text.{bad_listing_line}
use Rattle.gfx_cli.proofs.notes.bad_listing.Goals as goal

pub returns : goal.returns
unfolding bad_listing_line
returns c = IfOk-weaker c.format.result _ _ (λ line is. is ∙ simp append_assoc) c.format.ensures.ok
