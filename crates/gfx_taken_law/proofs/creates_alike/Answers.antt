use Rattle.gfx_taken_law.proofs.TakenLaws.{creates_alike}
use Rattle.gfx_taken_law.proofs.creates_alike.Goals as goal

pub returns : goal.returns
returns c = creates_alike
