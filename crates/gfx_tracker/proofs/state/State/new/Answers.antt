use Rattle.gfx_commands.specs.Recordings.{buffers}
use Rattle.gfx_tracker.specs.Registry.{answers_of}
use Rattle.gfx_tracker.proofs.Gathered.{new_gathered}
use Rattle.gfx_tracker.proofs.state.State.new.Goals as goal

pub returns : goal.returns
returns c = new_gathered (answers_of c.new.result) (buffers c.new-2.result) c.new.ensures c.new-2.ensures
