use Rattle.gfx_listing_law.proofs.Readable.{fronts}
use Rattle.gfx_listing_law.proofs.fronts_are_unlisted.Goals as goal

pub returns : goal.returns
returns c = fronts
