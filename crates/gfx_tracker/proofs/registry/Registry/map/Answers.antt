use Rattle.gfx_tracker.proofs.Registered.{registered_mapped, answers_mapped}
use Rattle.gfx_tracker.proofs.registry.Registry.map.Goals as goal

pub invariant_of-self : goal.invariant_of-self
invariant_of-self c = record { kept = registered_mapped _ _ _ _ c.args.self.now.kept _ _ _ c.map.ensures.step }

pub returns : goal.returns
returns c = answers_mapped _ _ _ _ c.args.self.now.kept _ _ _ c.map.ensures.step
