use Rattle.gfx_trim_law.proofs.Each.{begun_is_shown}
use Rattle.gfx_trim_law.proofs.begun_is_shown.Goals as goal

pub returns : goal.returns
returns c = begun_is_shown
