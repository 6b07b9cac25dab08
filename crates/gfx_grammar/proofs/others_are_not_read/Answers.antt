use Rattle.gfx_grammar.proofs.NoRowLaws.{others_are_not_read}
use Rattle.gfx_grammar.proofs.others_are_not_read.Goals as goal

pub returns : goal.returns
returns c = others_are_not_read
