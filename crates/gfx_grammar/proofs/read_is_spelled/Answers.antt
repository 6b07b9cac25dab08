use Rattle.gfx_grammar.proofs.EventLaws.{read_is_spelled}
use Rattle.gfx_grammar.proofs.read_is_spelled.Goals as goal

pub returns : goal.returns
returns c = read_is_spelled
