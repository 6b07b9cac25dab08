use Rattle.gfx_grammar.proofs.WrittenLaws.{blocks_of-parts}
use Rattle.gfx_grammar.proofs.parts_are_blocks.Goals as goal

pub returns : goal.returns
returns c = blocks_of-parts
