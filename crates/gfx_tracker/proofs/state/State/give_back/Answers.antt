use Rattle.gfx_model.specs.Steps.Step.{gives_back}
use Rattle.gfx_commands.specs.Recordings.{buffers}
use Rattle.gfx_tracker.specs.Registry.{answers_of}
use Rattle.gfx_tracker.proofs.Gathered.{quiet_plain, quiet_gathered}
use Rattle.gfx_tracker.proofs.state.State.give_back.Goals as goal

pub invariant_of-self : goal.invariant_of-self
invariant_of-self c =
    let s = c.args.self.now in
    record { plain = quiet_plain (answers_of s.registry) (answers_of c.give_back.new.self) (buffers s.recordings) (gives_back c.args.swapchain c.args.index) tt c.give_back.ensures s.plain }

pub returns : goal.returns
returns c =
    let s = c.args.self.now in
    quiet_gathered (answers_of s.registry) (answers_of c.give_back.new.self) (buffers s.recordings) s.next_frame s.is_empty s.section (gives_back c.args.swapchain c.args.index) tt c.give_back.ensures
