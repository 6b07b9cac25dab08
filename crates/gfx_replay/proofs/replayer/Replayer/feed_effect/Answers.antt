use Rattle.gfx_model.specs.Events.{event_of}
use Rattle.gfx_tracker.specs.Tracker.{answers}
use Rattle.gfx_replay.specs.Places.{bytes_in}
use Rattle.gfx_replay.proofs.Taking.{taken_stood}
use Rattle.gfx_replay.proofs.replayer.Replayer.feed_effect.Goals as goal

pub invariant_of-self : goal.invariant_of-self
invariant_of-self c = record {
  standing = λ found.
      taken_stood (answers c.args.self.now.tracker) (answers c.take.new.tracker) (bytes_in c.args.self.now.places) (bytes_in c.take.new.places) (event_of c.args.effect.now) c.in-Ok.shown
      (c.args.self.now.standing c.requires) c.in-Ok.ensures;
}
