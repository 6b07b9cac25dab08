use Rattle.gfx_upgrade.proofs.Meanings.{upgraded_says_the_same}
use Rattle.gfx_upgrade.proofs.upgraded_says_the_same.Goals as goal

pub returns : goal.returns
returns c = upgraded_says_the_same
