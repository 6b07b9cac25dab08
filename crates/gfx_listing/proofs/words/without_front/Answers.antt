use Rattle.gfx_text.proofs.Fronts.{front_matches}
use Rattle.gfx_listing.proofs.words.without_front.Goals as goal

pub returns : goal.returns
returns c = front_matches (λ r. r.now) c.args.front.now c.args.text.now c.strip_prefix.result c.strip_prefix.ensures.cases
