use Rattle.gfx_model.specs.Events.{event_of}
use Rattle.gfx_tracker.specs.State.{state_answers}
use Rattle.gfx_tracker.specs.Tracker.{answers}
use Rattle.gfx_tracker.proofs.LawfulEvents.{lawful_taken}
use Rattle.gfx_tracker.proofs.tracker.Tracker.take.Goals as goal

pub invariant_of-self : goal.invariant_of-self
unfolding answers
invariant_of-self c = record {
  lawful = lawful_taken (state_answers c.args.self.now.state) (state_answers c.take_effect.new.state) (event_of c.args.effect.now) c.take_effect.result
      c.requires c.args.self.now.lawful c.take_effect.ensures.ok c.take_effect.ensures.err;
}
