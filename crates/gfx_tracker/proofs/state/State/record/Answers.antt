use Rattle.std.proofs.Common.{false, ap, subst, sym, ◌∙◌}
use Rattle.gfx_model.specs.Events.{event_of_call}
use Rattle.gfx_objects.specs.Objects.{answers}
use Rattle.gfx_commands.specs.Recordings.{buffers}
use Rattle.gfx_tracker.specs.Registered.{registered}
use Rattle.gfx_tracker.specs.Registry.{answers_of}
use Rattle.gfx_tracker.specs.Gathered.{gathered, IsPlain}
use Rattle.gfx_tracker.proofs.Gathered.{recorded_plain, recorded_gathered}
use Rattle.gfx_tracker.proofs.state.State.record.Goals as goal

pub invariant_of-self-2 : goal.invariant_of-self-2
invariant_of-self-2 c =
    let s = c.args.self.now in
    record {
      plain = subst (λ o. IsPlain (answers o).live (buffers c.add.new.self)) (sym c.note_device.ensures)
          (recorded_plain (answers_of s.registry) (buffers s.recordings) (buffers c.add.new.self) s.next_frame s.is_empty s.section s.plain c.args.cb (event_of_call c.args.call.now) c.requires.live c.in_ok-add.ensures.ok);
    }

pub returns-clause-ok : goal.returns-clause-ok
returns-clause-ok c =
    let s = c.args.self.now in
    ap (λ o. gathered (registered o s.registry.signals s.registry.images) (buffers c.add.new.self) s.next_frame false s.section) c.note_device.ensures
    ∙ recorded_gathered (answers_of s.registry) (buffers s.recordings) (buffers c.add.new.self) s.next_frame s.is_empty s.section s.plain c.args.cb (event_of_call c.args.call.now) c.requires.live c.in_ok-add.ensures.ok
