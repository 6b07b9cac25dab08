use Rattle.gfx_text_grammar.proofs.TextLaws.{parses_are_computed}
use Rattle.gfx_text_grammar.proofs.parses_are_computed.Goals as goal

pub returns : goal.returns
returns c = parses_are_computed
