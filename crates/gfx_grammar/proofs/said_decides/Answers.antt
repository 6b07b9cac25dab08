use Rattle.gfx_grammar.proofs.SaidLaws.{block-side, block-past}
use Rattle.gfx_grammar.proofs.said_decides.Goals as goal

pub returns : goal.returns
returns c = λ m at bytes content fit h. (block-side m at bytes content fit h, block-past m at bytes content fit h)
