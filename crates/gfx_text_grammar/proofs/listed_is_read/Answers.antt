use Rattle.gfx_text_grammar.proofs.TextLaws.{listed_is_read}
use Rattle.gfx_text_grammar.proofs.listed_is_read.Goals as goal

pub returns : goal.returns
returns c = listed_is_read
