use Rattle.gfx_grammar.proofs.BlockLaws.{ends_are_computed}
use Rattle.gfx_grammar.proofs.ends_are_computed.Goals as goal

pub returns : goal.returns
returns c = ends_are_computed
