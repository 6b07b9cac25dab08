use Rattle.gfx_model.proofs.Cutting.{trimmed_follows}
use Rattle.gfx_model.proofs.trimmed_follows.Goals as goal

pub returns : goal.returns
returns c = trimmed_follows
