use Rattle.gfx_make.proofs.Shows.{made_shows as law}
use Rattle.gfx_make.proofs.made_shows.Goals as goal

pub returns : goal.returns
returns c = law
