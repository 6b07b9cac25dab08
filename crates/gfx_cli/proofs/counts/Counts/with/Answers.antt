use Rattle.std.proofs.Common.{sym, ap, ◌∙◌}
use Rattle.gfx_blocks.specs.Payloads.{content_of}
use Rattle.gfx_cli.specs.Counts.{with_block}
use Rattle.gfx_cli.proofs.counts.Counts.with.Goals as goal

pub returns-in-Effect : goal.returns-in-Effect
returns-in-Effect c = c.with_effect.ensures c.in-Effect.thread ∙ ap (λ b. with_block c.args.self (content_of b)) (sym c.in-Effect.is)
