use Rattle.gfx_text_grammar.proofs.TextLaws.{one_listing}
use Rattle.gfx_text_grammar.proofs.one_listing.Goals as goal

pub returns : goal.returns
returns c = one_listing
