use Rattle.gfx_grammar.proofs.FrontLaws.{front-with_payload}
use Rattle.gfx_grammar.proofs.payload_decides.Goals as goal

pub returns : goal.returns
returns c = front-with_payload
