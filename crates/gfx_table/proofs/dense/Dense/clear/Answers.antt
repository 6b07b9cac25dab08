use Rattle.gfx_table.proofs.Densing.{start}
use Rattle.gfx_table.proofs.Placing.{none_placed}
use Rattle.gfx_table.proofs.dense.Dense.clear.Goals as goal

pub invariant_of-self : goal.invariant_of-self
invariant_of-self g c = (start c.clear.new.self.items c.clear-2.new.self.items _ c.clear.ensures.items c.clear-2.ensures.items (none_placed c.clear.new.self.items c.clear.ensures.items)).0

pub returns-clause-map : goal.returns-clause-map
returns-clause-map g c = (start c.clear.new.self.items c.clear-2.new.self.items _ c.clear.ensures.items c.clear-2.ensures.items (none_placed c.clear.new.self.items c.clear.ensures.items)).1
