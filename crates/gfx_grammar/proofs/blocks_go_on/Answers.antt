use Rattle.gfx_grammar.proofs.BlockLaws.{blocks_go_on}
use Rattle.gfx_grammar.proofs.blocks_go_on.Goals as goal

pub returns : goal.returns
returns c = blocks_go_on
