use Rattle.gfx_tracker.proofs.Registered.{registered_laid, answers_laid}
use Rattle.gfx_tracker.proofs.registry.Registry.set_layout.Goals as goal

pub invariant_of-self : goal.invariant_of-self
invariant_of-self c = record { kept = registered_laid _ _ _ _ c.args.self.now.kept _ _ c.set_layout.ensures.step }

pub returns : goal.returns
returns c = answers_laid _ _ _ _ c.args.self.now.kept _ _ c.set_layout.ensures.step
