use Rattle.std.proofs.Common.{[], length-append, refl, arith}
use Rattle.gfx_model.specs.Spelling.{fields_of, type_of, id_of, spelling, payload}
use Rattle.gfx_tracker.proofs.ReadItems.{bytes_fit}
use Rattle.gfx_log_tests.proofs.full_log.fill.Goals as goal

pub append-requires-clause-fits : goal.append-requires-clause-fits
unfolding fields_of type_of id_of spelling payload
append-requires-clause-fits c = record {
  fits = record { version = tt; fields = (omega arith, (omega arith, ((omega arith, bytes_fit c.args.bytes.now c.type_inv.bytes), tt))) };
  unmarked = refl;
  small = let all = length-append c.args.bytes.now [] in omega (arith, all);
}
