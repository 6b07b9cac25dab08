use Rattle.std.proofs.Common.{refl}
use Rattle.gfx_rules.proofs.Joined.{joins}
use Rattle.gfx_rules.proofs.lists.near_each.Goals as goal

pub returns : goal.returns
returns g c = joins (g.A.Answers.view c.args.answers.now) _ _ _ _ _ _ c.live_each-live.ensures c.near_all.ensures c.first.ensures refl
