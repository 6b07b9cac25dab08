use Rattle.gfx_text_grammar.proofs.TextLaws.{fronts_are_listings}
use Rattle.gfx_text_grammar.proofs.fronts_are_listings.Goals as goal

pub returns : goal.returns
returns c = fronts_are_listings
