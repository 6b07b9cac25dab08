use Rattle.std.proofs.Common.{ap, sym, ◌∙◌}
use Rattle.gfx_commands.specs.Recordings.{commands_total, bytes_total}
use Rattle.gfx_commands.proofs.Counting.{commands_among, bytes_among}
use Rattle.gfx_commands.proofs.recordings.Recordings.totals.Goals as goal

pub returns-clause-commands : goal.returns-clause-commands
returns-clause-commands c = λ ids distinct holds.
    commands_among c.args.self.now ids distinct holds ∙ sym (c.totals.ensures.commands ∙ ap commands_total c.self.view_is)

pub returns-clause-bytes : goal.returns-clause-bytes
returns-clause-bytes c = λ ids distinct holds.
    bytes_among c.args.self.now ids distinct holds ∙ sym (c.totals.ensures.bytes ∙ ap bytes_total c.self.view_is)
