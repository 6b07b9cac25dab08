use Rattle.gfx_make.proofs.Valid.{made_is_valid as law}
use Rattle.gfx_make.proofs.made_is_valid.Goals as goal

pub returns : goal.returns
returns c = law
