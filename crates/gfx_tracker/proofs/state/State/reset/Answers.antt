use Rattle.gfx_commands.specs.Recordings.{buffers}
use Rattle.gfx_tracker.specs.Registry.{answers_of}
use Rattle.gfx_tracker.proofs.Gathered.{reset_plain, reset_gathered}
use Rattle.gfx_tracker.proofs.state.State.reset.Goals as goal

pub invariant_of-self : goal.invariant_of-self
invariant_of-self c =
    let s = c.args.self.now in
    record { plain = reset_plain (answers_of s.registry) (buffers s.recordings) (buffers c.reset.new.self) s.next_frame s.is_empty s.section s.plain c.args.cb c.reset.ensures }

pub returns : goal.returns
returns c =
    let s = c.args.self.now in
    reset_gathered (answers_of s.registry) (buffers s.recordings) (buffers c.reset.new.self) s.next_frame s.is_empty s.section s.plain c.args.cb c.reset.ensures
