use Rattle.gfx_make.proofs.Meaning.{made_is_meant as law}
use Rattle.gfx_make.proofs.made_is_meant.Goals as goal

pub returns : goal.returns
returns c = law
