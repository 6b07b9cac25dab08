use Rattle.gfx_table.proofs.Storing.{none_stored}
use Rattle.gfx_table.proofs.stored.Stored.new.Goals as goal

pub invariant_of-result : goal.invariant_of-result
invariant_of-result g c = (none_stored c.new-2.result c.new.result.map c.new.ensures).0

pub returns : goal.returns
returns g c = (none_stored c.new-2.result c.new.result.map c.new.ensures).1
