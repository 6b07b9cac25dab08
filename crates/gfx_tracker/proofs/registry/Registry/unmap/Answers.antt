use Rattle.gfx_tracker.proofs.Registered.{registered_unmapped, answers_unmapped}
use Rattle.gfx_tracker.proofs.registry.Registry.unmap.Goals as goal

pub invariant_of-self : goal.invariant_of-self
invariant_of-self c = record { kept = registered_unmapped _ _ _ _ c.args.self.now.kept _ c.unmap.ensures.step }

pub returns : goal.returns
returns c = answers_unmapped _ _ _ _ c.args.self.now.kept _ c.unmap.ensures.step
