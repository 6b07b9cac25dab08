use Rattle.gfx_script_law.proofs.Counting.{as_many_calls}
use Rattle.gfx_script_law.proofs.as_many_calls.Goals as goal

pub returns : goal.returns
returns c = as_many_calls
