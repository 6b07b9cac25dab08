use Rattle.std.proofs.Common.{sym}
use Rattle.gfx_model.specs.Events.{event_of}
use Rattle.gfx_ops.proofs.Listed.{listed_all}
use Rattle.gfx_tracker.specs.Operations.{ops_of}
use Rattle.gfx_tracker.specs.Tracker.{answers}
use Rattle.gfx_tracker.proofs.tracker.Tracker.expand.Goals as goal

pub returns-clause-ok : goal.returns-clause-ok
unfolding answers
returns-clause-ok c = rw (sym (listed_all (ops_of (answers c.args.self.now) (event_of c.args.effect.now)))) c.append_ops.ensures.ok
