use Rattle.gfx_trim_law.proofs.Follows.{rest_leaves_trimmed}
use Rattle.gfx_trim_law.proofs.rest_leaves_trimmed.Goals as goal

pub returns : goal.returns
returns c = rest_leaves_trimmed
