use Rattle.gfx_script_law.proofs.Agree.{longer_tables_agree}
use Rattle.gfx_script_law.proofs.longer_tables_agree.Goals as goal

pub returns : goal.returns
returns c = longer_tables_agree
