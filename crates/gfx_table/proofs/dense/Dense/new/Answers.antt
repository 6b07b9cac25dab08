use Rattle.gfx_table.proofs.Densing.{start}
use Rattle.gfx_table.proofs.Placing.{none_placed}
use Rattle.gfx_table.proofs.dense.Dense.new.Goals as goal

pub invariant_of-result : goal.invariant_of-result
invariant_of-result g c = (start c.new.result.items c.new-2.result.items _ c.new.ensures c.new-2.ensures.items (none_placed c.new.result.items c.new.ensures)).0

pub returns : goal.returns
returns g c = (start c.new.result.items c.new-2.result.items _ c.new.ensures c.new-2.ensures.items (none_placed c.new.result.items c.new.ensures)).1
