use Rattle.gfx_commands.specs.Recordings.{buffers}
use Rattle.gfx_commands.proofs.Buffers.{no_buffers}
use Rattle.gfx_commands.proofs.Indexed.{none_named}
use Rattle.gfx_commands.proofs.recordings.Recordings.new.Goals as goal

pub invariant_of-result : goal.invariant_of-result
invariant_of-result c = none_named c.new-2.result.groups.sets.map (buffers c.new.result.map) c.new-2.ensures (no_buffers c.new.result.map c.new.ensures)

pub returns : goal.returns
returns c = no_buffers c.new.result.map c.new.ensures
