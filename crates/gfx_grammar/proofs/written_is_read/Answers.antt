use Rattle.gfx_grammar.proofs.WrittenLaws.{written_is_read}
use Rattle.gfx_grammar.proofs.written_is_read.Goals as goal

pub returns : goal.returns
returns c = written_is_read
