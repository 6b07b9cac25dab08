use Rattle.gfx_trim_law.proofs.Each.{each_is_shown}
use Rattle.gfx_trim_law.proofs.each_is_shown.Goals as goal

pub returns : goal.returns
returns c = each_is_shown
