use Rattle.gfx_upgrade.proofs.UpgradedLaws.{upgraded_is_read}
use Rattle.gfx_upgrade.proofs.upgraded_is_read.Goals as goal

pub returns : goal.returns
returns c = upgraded_is_read
