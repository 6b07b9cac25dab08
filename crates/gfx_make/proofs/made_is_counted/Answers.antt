use Rattle.gfx_make.proofs.Meaning.{made_is_counted as law}
use Rattle.gfx_make.proofs.made_is_counted.Goals as goal

pub returns : goal.returns
returns c = law
