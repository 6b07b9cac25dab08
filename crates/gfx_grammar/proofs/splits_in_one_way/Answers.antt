use Rattle.gfx_grammar.proofs.SplitLaws.{splits_in_one_way}
use Rattle.gfx_grammar.proofs.splits_in_one_way.Goals as goal

pub returns : goal.returns
returns c = splits_in_one_way
