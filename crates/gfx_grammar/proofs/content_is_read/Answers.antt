use Rattle.gfx_grammar.proofs.ContentLaws.{content_is_read}
use Rattle.gfx_grammar.proofs.content_is_read.Goals as goal

pub returns : goal.returns
returns c = content_is_read
