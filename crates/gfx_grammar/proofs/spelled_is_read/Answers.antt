use Rattle.gfx_grammar.proofs.EventLaws.{spelled_is_read}
use Rattle.gfx_grammar.proofs.spelled_is_read.Goals as goal

pub returns : goal.returns
returns c = spelled_is_read
