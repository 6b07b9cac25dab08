use Rattle.gfx_text_grammar.proofs.TextLaws.{styles_read}
use Rattle.gfx_text_grammar.proofs.styles_read.Goals as goal

pub returns : goal.returns
returns c = styles_read
