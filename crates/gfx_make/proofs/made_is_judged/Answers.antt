use Rattle.gfx_make.proofs.Meaning.{made_is_judged as law}
use Rattle.gfx_make.proofs.made_is_judged.Goals as goal

pub returns : goal.returns
returns c = law
