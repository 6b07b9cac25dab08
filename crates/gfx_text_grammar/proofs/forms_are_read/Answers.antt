use Rattle.gfx_text_grammar.proofs.TextLaws.{forms_are_read}
use Rattle.gfx_text_grammar.proofs.forms_are_read.Goals as goal

pub returns : goal.returns
returns c = forms_are_read
