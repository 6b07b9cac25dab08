use Rattle.gfx_asked.proofs.Places.{empty_holds}
use Rattle.gfx_asked.proofs.offsets.Offsets.new.Goals as goal

pub invariant_of-result : goal.invariant_of-result
invariant_of-result c = record { ends = λ j last. empty_holds c.new.result c.new.ensures.empty j }

pub returns : goal.returns
returns c = empty_holds c.new.result c.new.ensures.empty
