use Rattle.gfx_run_law.proofs.Ends.{safe_goes_on}
use Rattle.gfx_run_law.proofs.safe_goes_on.Goals as goal

pub returns : goal.returns
returns c = safe_goes_on
