use Rattle.gfx_commands.specs.Recordings.{buffers}
use Rattle.gfx_tracker.specs.Registry.{answers_of}
use Rattle.gfx_tracker.proofs.Gathered.{executed_plain, executed_gathered}
use Rattle.gfx_tracker.proofs.state.State.execute.Goals as goal

pub invariant_of-self : goal.invariant_of-self
invariant_of-self c =
    let s = c.args.self.now in
    record { plain = executed_plain (answers_of s.registry) (buffers s.recordings) (buffers c.executed.new.self) s.next_frame s.is_empty s.section s.plain c.args.cb c.executed.ensures }

pub returns : goal.returns
returns c =
    let s = c.args.self.now in
    executed_gathered (answers_of s.registry) (buffers s.recordings) (buffers c.executed.new.self) s.next_frame s.is_empty s.section s.plain c.args.cb c.executed.ensures
