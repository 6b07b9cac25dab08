use Rattle.std.proofs.Common.{ap, ◌∙◌}
use Rattle.std.specs.FinMap as map
use Rattle.std.specs.FinMap.{get-empty}
use Rattle.std.specs.Ordering.{nat_cmp}
use Rattle.gfx_table.proofs.Marking.{marked_none}
use Rattle.gfx_table.proofs.rest.Rest.new.Goals as goal

pub invariant_of-result : goal.invariant_of-result
invariant_of-result g c = marked_none c.new-2.result.items c.new.result.map (λ id. ap (λ m. map.get m id) c.new.ensures ∙ get-empty nat_cmp id)
