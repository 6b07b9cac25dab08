use Rattle.gfx_shadow.specs.Stretches.{stretches_byte}
use Rattle.gfx_shadow.proofs.ByEnd.{no_stretches, no_bytes}
use Rattle.gfx_shadow.proofs.stretches.Stretches.new.Goals as goal

pub invariant_of-result : goal.invariant_of-result
invariant_of-result c = record { are_apart = no_stretches c.new.result.map c.new.ensures }

pub returns : goal.returns
unfolding stretches_byte
returns c = no_bytes c.new.result.map c.new.ensures
