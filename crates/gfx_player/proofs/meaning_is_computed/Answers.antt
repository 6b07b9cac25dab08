use Rattle.gfx_player.proofs.Meaning.{meaning_is_computed}
use Rattle.gfx_player.proofs.meaning_is_computed.Goals as goal

pub returns : goal.returns
returns c = meaning_is_computed
