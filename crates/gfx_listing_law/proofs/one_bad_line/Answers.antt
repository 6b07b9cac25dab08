use Rattle.gfx_listing_law.proofs.Readable.{one_bad}
use Rattle.gfx_listing_law.proofs.one_bad_line.Goals as goal

pub returns : goal.returns
returns c = one_bad
