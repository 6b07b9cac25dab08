use Rattle.gfx_commands.specs.Recordings.{buffers}
use Rattle.gfx_tracker.specs.Registry.{answers_of}
use Rattle.gfx_tracker.proofs.Gathered.{begun_plain, begun_gathered}
use Rattle.gfx_tracker.proofs.state.State.begin.Goals as goal

pub invariant_of-self-2 : goal.invariant_of-self-2
invariant_of-self-2 c =
    let s = c.args.self.now in
    record { plain = begun_plain (answers_of s.registry) (buffers s.recordings) (buffers c.begin.new.self) s.next_frame s.is_empty s.section s.plain c.args.cb c.args.flags c.requires c.in_ok-begin.ensures.ok }

pub returns-clause-ok : goal.returns-clause-ok
returns-clause-ok c =
    let s = c.args.self.now in
    begun_gathered (answers_of s.registry) (buffers s.recordings) (buffers c.begin.new.self) s.next_frame s.is_empty s.section s.plain c.args.cb c.args.flags c.requires c.in_ok-begin.ensures.ok
