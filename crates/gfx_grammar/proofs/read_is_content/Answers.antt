use Rattle.gfx_grammar.proofs.ContentLaws.{read_is_content}
use Rattle.gfx_grammar.proofs.read_is_content.Goals as goal

pub returns : goal.returns
returns c = read_is_content
