use Rattle.std.proofs.Common.{[], refl}
use Rattle.gfx_rules.proofs.ids.new_fault.Goals as goal

pub returns : goal.returns
returns g c = c.new_fault_behind.ensures [] refl
