use Rattle.gfx_text_grammar.proofs.TextLaws.{statements_are_read}
use Rattle.gfx_text_grammar.proofs.statements_are_read.Goals as goal

pub returns : goal.returns
returns c = statements_are_read
