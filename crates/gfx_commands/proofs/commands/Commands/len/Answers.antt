use Rattle.std.proofs.Common.{length, ap, sym, ◌∙◌}
use Rattle.gfx_commands.specs.Commands.{events_in}
use Rattle.gfx_commands.specs.Inside.{spelled_in}
use Rattle.gfx_commands.proofs.Cuts.{length-cut}
use Rattle.gfx_commands.proofs.Added.{length-events}
use Rattle.gfx_commands.proofs.commands.Commands.len.Goals as goal

pub returns : goal.returns
returns c =
    let s = c.self.inside in
    c.len.ensures ∙ s.commands.ok.0 ∙ sym (length-cut s.fields.items 0 s.commands.items) ∙ sym (length-events (spelled_in s)) ∙ ap (λ ss. length (events_in ss)) c.self.view_is
