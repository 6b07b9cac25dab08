use Rattle.gfx_text_grammar.proofs.TextLaws.{lines_are_read}
use Rattle.gfx_text_grammar.proofs.lines_are_read.Goals as goal

pub returns : goal.returns
returns c = lines_are_read
