use Rattle.gfx_asked.proofs.Stand as stand
use Rattle.gfx_asked.proofs.accesses_stand.Goals as goal

pub returns : goal.returns
returns c = stand.accesses_stand
