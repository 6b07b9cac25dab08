use Rattle.gfx_tracker.proofs.Registered.{registered_empty, answers_empty}
use Rattle.gfx_tracker.proofs.registry.Registry.new.Goals as goal

pub invariant_of-result : goal.invariant_of-result
invariant_of-result c = record { kept = registered_empty c.new.result c.new-2.result c.new-3.result c.new.ensures.plain c.new-2.ensures c.new-3.ensures }

pub returns : goal.returns
returns c = answers_empty c.new.result c.new-2.result c.new-3.result c.new.ensures.plain c.new-2.ensures c.new-3.ensures
