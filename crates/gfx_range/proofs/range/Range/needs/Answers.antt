use Rattle.std.proofs.Common.{sym, subst}
use Rattle.gfx_feature_model.specs.Lean.{events_in}
use Rattle.gfx_needed.specs.NeededIds.{IsFound, IsSearched, is_marked}
use Rattle.gfx_range.proofs.Gathering.{kept_just}
use Rattle.gfx_range.proofs.range.Range.needs.Goals as goal

pub returns-clause-keep : goal.returns-clause-keep
returns-clause-keep c = λ h ws before g.
    let found = c.in_ok-follow.ensures (events_in ws) (subst (λ v. IsSearched v (events_in ws) c.args.self.needed) (sym before) g.needed) in
    kept_just c.args.self c.follow.new.self c.in_ok-asked.asked h ws g (subst (λ v. IsFound v (events_in ws) (is_marked c.follow.new.self)) before found) c.in_ok-asked.ensures
