use Rattle.gfx_model.specs.Events.{event_of}
use Rattle.gfx_tracker.specs.Tracker.{answers}
use Rattle.gfx_needed.proofs.Searching.{searched_more}
use Rattle.gfx_needed.proofs.needed.NeededIds.name.Goals as goal

pub returns : goal.returns
returns c = λ range. searched_more (answers c.args.tracker.now) range (event_of c.args.effect.now) c.args.self.now c.mark_named.new.self c.in_ok-mark_named.ensures
