use Rattle.std.proofs.Common.{refl}
use Rattle.gfx_shadow.proofs.Indexed.{none_indexed_new}
use Rattle.gfx_shadow.proofs.memories.Memories.new.Goals as goal

pub returns-clause-indexed : goal.returns-clause-indexed
returns-clause-indexed c = none_indexed_new (record { rows = c.new.result; first = 0; places = c.new-2.result }) c.new.ensures.items refl c.new-2.ensures
