use Rattle.std.proofs.Common.{ap, sym, ◌∙◌}
use Rattle.gfx_commands.proofs.recordings.Recordings.layout_before.Goals as goal

pub returns-then-laid : goal.returns-then-laid
returns-then-laid c = c.layout.ensures ∙ sym (ap (λ f. f c.args.image) (c.requires.laid c.if-laid.true))
