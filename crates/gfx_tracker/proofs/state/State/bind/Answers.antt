use Rattle.gfx_model.specs.Steps.Step.{binds}
use Rattle.gfx_commands.specs.Recordings.{buffers}
use Rattle.gfx_tracker.specs.Registry.{answers_of}
use Rattle.gfx_tracker.proofs.Gathered.{quiet_plain, quiet_gathered}
use Rattle.gfx_tracker.proofs.state.State.bind.Goals as goal

pub invariant_of-self-2 : goal.invariant_of-self-2
invariant_of-self-2 c =
    let s = c.args.self.now in
    record { plain = quiet_plain (answers_of s.registry) (answers_of c.bind.new.self) (buffers s.recordings) (binds c.args.id c.args.memory c.args.offset) tt c.in_ok-bind.ensures.ok s.plain }

pub returns-clause-ok : goal.returns-clause-ok
returns-clause-ok c =
    let s = c.args.self.now in
    quiet_gathered (answers_of s.registry) (answers_of c.bind.new.self) (buffers s.recordings) s.next_frame s.is_empty s.section (binds c.args.id c.args.memory c.args.offset) tt c.in_ok-bind.ensures.ok
