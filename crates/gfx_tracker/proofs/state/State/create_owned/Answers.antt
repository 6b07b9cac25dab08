use Rattle.gfx_objects.specs.Object.{detail_of}
use Rattle.gfx_commands.specs.Recordings.{buffers}
use Rattle.gfx_tracker.specs.Registry.{answers_of}
use Rattle.gfx_tracker.proofs.Gathered.{made_plain, made_gathered}
use Rattle.gfx_tracker.proofs.state.State.create_owned.Goals as goal

pub invariant_of-self : goal.invariant_of-self
invariant_of-self c =
    let s = c.args.self.now in
    record { plain = made_plain (answers_of s.registry) (answers_of c.create_owned.new.self) (buffers s.recordings) c.args.id c.args.parent (detail_of c.args.detail) c.create_owned.ensures.step s.plain c.requires.may.fresh }

pub returns-clause-step : goal.returns-clause-step
returns-clause-step c =
    let s = c.args.self.now in
    made_gathered (answers_of s.registry) (answers_of c.create_owned.new.self) (buffers s.recordings) s.next_frame s.is_empty s.section c.args.id c.args.parent (detail_of c.args.detail)
    c.create_owned.ensures.step s.plain c.requires.may.fresh
