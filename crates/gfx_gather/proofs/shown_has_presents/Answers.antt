use Rattle.gfx_gather.proofs.Staying.{shown_has_presents}
use Rattle.gfx_gather.proofs.shown_has_presents.Goals as goal

pub returns : goal.returns
returns c = shown_has_presents
