use Rattle.gfx_commands.specs.Recordings.{buffers}
use Rattle.gfx_tracker.specs.Registry.{answers_of}
use Rattle.gfx_tracker.proofs.Gathered.{finished_plain, finished_gathered}
use Rattle.gfx_tracker.proofs.state.State.finish.Goals as goal

pub invariant_of-self : goal.invariant_of-self
invariant_of-self c =
    let s = c.args.self.now in
    record { plain = finished_plain (answers_of s.registry) (buffers s.recordings) (buffers c.end.new.self) s.next_frame s.is_empty s.section s.plain c.args.cb c.requires.live c.end.ensures }

pub returns : goal.returns
returns c =
    let s = c.args.self.now in
    finished_gathered (answers_of s.registry) (buffers s.recordings) (buffers c.end.new.self) s.next_frame s.is_empty s.section s.plain c.args.cb c.requires.live c.end.ensures
