use Rattle.gfx_text_grammar.proofs.TextLaws.{read_is_listed}
use Rattle.gfx_text_grammar.proofs.read_is_listed.Goals as goal

pub returns : goal.returns
returns c = read_is_listed
