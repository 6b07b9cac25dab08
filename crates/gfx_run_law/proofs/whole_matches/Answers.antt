use Rattle.gfx_run_law.proofs.Ends.{whole_matches}
use Rattle.gfx_run_law.proofs.whole_matches.Goals as goal

pub returns : goal.returns
returns c = whole_matches
