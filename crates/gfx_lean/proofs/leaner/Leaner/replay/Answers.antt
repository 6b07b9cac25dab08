use Rattle.gfx_player.specs.Fed.{history_of}
use Rattle.gfx_lean.proofs.leaner.Leaner.replay.Goals as goal

pub returns-clause-ok : goal.returns-clause-ok
returns-clause-ok c = λ fed follows replayed. (c.in_ok-number.ensures.ok (history_of fed) follows, (c.in_ok-feed.ensures.ok fed replayed).replayed)
