use Rattle.gfx_text_grammar.proofs.WordLaws.{numbers_are_read}
use Rattle.gfx_text_grammar.proofs.numbers_are_read.Goals as goal

pub returns : goal.returns
returns c = numbers_are_read
