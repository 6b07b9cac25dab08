use Rattle.std.proofs.Common.{ap, sym, ◌∙◌, arith}
use Rattle.gfx_commands.specs.Recordings.{commands_total, bytes_total}
use Rattle.gfx_commands.proofs.Counting.{no_commands, no_bytes}
use Rattle.gfx_commands.proofs.rows.Rows.new.Goals as goal

pub invariant_of-result : goal.invariant_of-result
invariant_of-result c = record {
  commands = sym (ap commands_total c.new.ensures ∙ no_commands);
  bytes = sym (ap bytes_total c.new.ensures ∙ no_bytes);
  few = omega arith;
  small = omega arith;
}
