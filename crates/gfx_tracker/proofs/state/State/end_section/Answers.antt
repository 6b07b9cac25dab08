use Rattle.std.proofs.Common.{refl}
use Rattle.gfx_model.specs.After.{after}
use Rattle.gfx_tracker.proofs.state.State.end_section.Goals as goal

pub returns : goal.returns
unfolding after
returns c = refl
