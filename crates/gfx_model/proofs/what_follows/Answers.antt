use Rattle.gfx_model.proofs.Following.{what_follows}
use Rattle.gfx_model.proofs.what_follows.Goals as goal

pub returns : goal.returns
returns c = what_follows
