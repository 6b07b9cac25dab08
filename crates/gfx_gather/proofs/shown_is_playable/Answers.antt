use Rattle.gfx_gather.proofs.Playing.{shown_is_playable}
use Rattle.gfx_gather.proofs.shown_is_playable.Goals as goal

pub returns : goal.returns
returns c = shown_is_playable
