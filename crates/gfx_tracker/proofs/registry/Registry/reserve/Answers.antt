use Rattle.gfx_tracker.proofs.Registered.{registered_along, answers_along}
use Rattle.gfx_tracker.proofs.registry.Registry.reserve.Goals as goal

pub invariant_of-self : goal.invariant_of-self
invariant_of-self c = record { kept = registered_along _ _ _ _ c.args.self.now.kept c.reserve.ensures.same }

pub returns-clause-same : goal.returns-clause-same
returns-clause-same c = answers_along _ _ _ _ c.reserve.ensures.same
