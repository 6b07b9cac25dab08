use Rattle.gfx_grammar.proofs.BlockLaws.{blocks_are_computed}
use Rattle.gfx_grammar.proofs.blocks_are_computed.Goals as goal

pub returns : goal.returns
returns c = blocks_are_computed
