use Rattle.gfx_text_grammar.proofs.TextLaws.{headers_are_read}
use Rattle.gfx_text_grammar.proofs.headers_are_read.Goals as goal

pub returns : goal.returns
returns c = headers_are_read
