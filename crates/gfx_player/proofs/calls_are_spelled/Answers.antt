use Rattle.gfx_player.proofs.Meaning.{calls_are_spelled}
use Rattle.gfx_player.proofs.calls_are_spelled.Goals as goal

pub returns : goal.returns
returns c = calls_are_spelled
