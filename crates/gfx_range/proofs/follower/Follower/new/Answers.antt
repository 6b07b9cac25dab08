use Rattle.std.proofs.Common.{refl}
use Rattle.gfx_model.specs.Frames.{frames}
use Rattle.gfx_model.specs.History.{steps}
use Rattle.gfx_range.proofs.follower.Follower.new.Goals as goal

pub returns : goal.returns
unfolding frames steps
returns c = record { valid = refl; same = c.new.ensures; first = refl }
