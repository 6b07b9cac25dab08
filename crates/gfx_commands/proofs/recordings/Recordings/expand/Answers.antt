use Rattle.std.proofs.Common.{sym}
use Rattle.std.specs.Prelude.{flat_map}
use Rattle.gfx_objects.specs.Objects.{answers}
use Rattle.gfx_ops.specs.Operations.{ops_of_command}
use Rattle.gfx_ops.proofs.Listed.{listed_all}
use Rattle.gfx_commands.specs.Recordings.{buffers}
use Rattle.gfx_commands.proofs.recordings.Recordings.expand.Goals as goal

pub returns-clause-ok : goal.returns-clause-ok
returns-clause-ok c = rw (sym (listed_all (flat_map (ops_of_command (answers c.args.objects.now)) (buffers c.args.self.now c.args.cb).commands))) c.append_ops.ensures.ok
