use Rattle.std.proofs.Common.{arith}
use Rattle.gfx_model.specs.Spelling.{fields_of}
use Rattle.gfx_tracker.proofs.ReadItems.{bytes_fit}
use Rattle.gfx_tracker.proofs.spelled.cmd_update_buffer.Goals as goal

pub returns : goal.returns
unfolding fields_of
returns c = record { version = tt; fields = (omega arith, (omega arith, (omega arith, ((omega arith, bytes_fit c.args.bytes.now c.type_inv.bytes), tt)))) }
