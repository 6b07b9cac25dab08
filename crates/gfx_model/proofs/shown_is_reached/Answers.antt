use Rattle.gfx_model.proofs.Cutting.{shown_is_reached}
use Rattle.gfx_model.proofs.shown_is_reached.Goals as goal

pub returns : goal.returns
returns c = shown_is_reached
