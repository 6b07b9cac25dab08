use Rattle.gfx_model.specs.Steps.Step.{changes}
use Rattle.gfx_model.specs.Steps.Change.{set_layout}
use Rattle.gfx_commands.specs.Recordings.{buffers}
use Rattle.gfx_tracker.specs.Registry.{answers_of}
use Rattle.gfx_tracker.proofs.Gathered.{quiet_plain, quiet_gathered}
use Rattle.gfx_tracker.proofs.state.State.set_layout.Goals as goal

pub invariant_of-self : goal.invariant_of-self
invariant_of-self c =
    let s = c.args.self.now in
    record { plain = quiet_plain (answers_of s.registry) (answers_of c.set_layout.new.self) (buffers s.recordings) (changes (set_layout c.args.image c.args.layout)) tt c.set_layout.ensures s.plain }

pub returns : goal.returns
returns c =
    let s = c.args.self.now in
    quiet_gathered (answers_of s.registry) (answers_of c.set_layout.new.self) (buffers s.recordings) s.next_frame s.is_empty s.section (changes (set_layout c.args.image c.args.layout)) tt c.set_layout.ensures
