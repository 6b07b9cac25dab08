use Rattle.gfx_words.proofs.Only.{only_one}
use Rattle.gfx_words.proofs.command.Command.of.Goals as goal

pub returns-clause-only : goal.returns-clause-only
returns-clause-only c = only_one _ _ c.by_count.ensures.some
