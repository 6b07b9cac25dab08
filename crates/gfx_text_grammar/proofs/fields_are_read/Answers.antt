use Rattle.gfx_text_grammar.proofs.TextLaws.{fields_are_read}
use Rattle.gfx_text_grammar.proofs.fields_are_read.Goals as goal

pub returns : goal.returns
returns c = fields_are_read
