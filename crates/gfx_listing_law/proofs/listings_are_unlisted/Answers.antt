use Rattle.gfx_listing_law.proofs.Readable.{listings_unlisted}
use Rattle.gfx_listing_law.proofs.listings_are_unlisted.Goals as goal

pub returns : goal.returns
returns c = listings_unlisted
