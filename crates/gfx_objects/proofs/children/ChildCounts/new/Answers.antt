use Rattle.gfx_objects.proofs.Counts.{count_of-empty}
use Rattle.gfx_objects.proofs.children.ChildCounts.new.Goals as goal

pub returns : goal.returns
returns c = rw c.new.ensures count_of-empty
