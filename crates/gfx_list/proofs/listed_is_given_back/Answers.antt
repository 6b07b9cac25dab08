use Rattle.gfx_list.proofs.ListedBlocks.{given_back}
use Rattle.gfx_list.proofs.listed_is_given_back.Goals as goal

pub returns : goal.returns
returns c = given_back
