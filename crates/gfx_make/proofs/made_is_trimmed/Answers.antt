use Rattle.gfx_make.proofs.Meaning.{made_is_trimmed as law}
use Rattle.gfx_make.proofs.made_is_trimmed.Goals as goal

pub returns : goal.returns
returns c = law
