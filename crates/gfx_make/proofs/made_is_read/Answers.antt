use Rattle.gfx_make.proofs.Meaning.{made_is_read as law}
use Rattle.gfx_make.proofs.made_is_read.Goals as goal

pub returns : goal.returns
returns c = law
