use Rattle.std.proofs.Common.{arith}
use Rattle.gfx_recorder.proofs.names.are_wide.Goals as goal

pub returns : goal.returns
returns c name = omega (arith, c.type_inv.table name)
