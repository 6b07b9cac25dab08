use Rattle.gfx_trim_law.proofs.Follows.{rest_leaves_frames}
use Rattle.gfx_trim_law.proofs.rest_leaves_frames.Goals as goal

pub returns : goal.returns
returns c = rest_leaves_frames
