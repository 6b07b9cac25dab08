use Rattle.gfx_script_law.proofs.Playing.{parsed_is_playable}
use Rattle.gfx_script_law.proofs.parsed_is_playable.Goals as goal

pub returns : goal.returns
returns c = parsed_is_playable
