use Rattle.gfx_listing_law.proofs.Readable.{all_of}
use Rattle.gfx_listing_law.proofs.all_is_unlisted.Goals as goal

pub returns : goal.returns
returns c = all_of
