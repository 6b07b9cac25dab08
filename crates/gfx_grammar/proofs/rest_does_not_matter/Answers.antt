use Rattle.gfx_grammar.proofs.AloneLaws.{front-append}
use Rattle.gfx_grammar.proofs.rest_does_not_matter.Goals as goal

pub returns : goal.returns
returns c = front-append
