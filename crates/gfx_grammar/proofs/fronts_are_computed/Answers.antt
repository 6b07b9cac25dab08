use Rattle.gfx_grammar.proofs.BlockLaws.{fronts_are_computed}
use Rattle.gfx_grammar.proofs.fronts_are_computed.Goals as goal

pub returns : goal.returns
returns c = fronts_are_computed
