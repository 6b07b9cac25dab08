use Rattle.gfx_listing_law.proofs.Readable.{listing_is_good}
use Rattle.gfx_listing_law.proofs.listings_are_good.Goals as goal

pub returns : goal.returns
returns c = listing_is_good
