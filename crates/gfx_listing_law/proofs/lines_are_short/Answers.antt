use Rattle.gfx_listing_law.proofs.Readable.{header_is_short, line_is_short}
use Rattle.gfx_listing_law.proofs.lines_are_short.Goals as goal

pub returns : goal.returns
returns c = (header_is_short, line_is_short)
