use Rattle.gfx_grammar.proofs.AloneLaws.{block-front}
use Rattle.gfx_grammar.proofs.place_does_not_matter.Goals as goal

pub returns : goal.returns
returns c = block-front
