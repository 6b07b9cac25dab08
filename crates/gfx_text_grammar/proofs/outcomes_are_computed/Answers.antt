use Rattle.gfx_text_grammar.proofs.TextLaws.{outcomes_are_computed}
use Rattle.gfx_text_grammar.proofs.outcomes_are_computed.Goals as goal

pub returns : goal.returns
returns c = outcomes_are_computed
