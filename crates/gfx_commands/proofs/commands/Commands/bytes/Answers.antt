use Rattle.std.proofs.Common.{ap, ◌∙◌}
use Rattle.gfx_commands.specs.Commands.{events_in, bytes_of}
use Rattle.gfx_commands.proofs.Added.{bytes_kept}
use Rattle.gfx_commands.proofs.commands.Commands.bytes.Goals as goal

pub returns : goal.returns
returns c = c.len.ensures ∙ c.self.inside.fields.ok.0 ∙ bytes_kept c.self.inside c.self.invariant ∙ ap (λ ss. bytes_of (events_in ss)) c.self.view_is
