use Rattle.gfx_make.proofs.Meaning.{made_has_range as law}
use Rattle.gfx_make.proofs.made_has_range.Goals as goal

pub returns : goal.returns
returns c = law
