use Rattle.gfx_objects.proofs.Counts.{one_more}
use Rattle.gfx_objects.proofs.children.ChildCounts.add.Goals as goal

pub returns-clause-counts : goal.returns-clause-counts
returns-clause-counts c = rw c.set.ensures.map (one_more c.args.self.now.counts.map c.args.parent c.get-count.result c.get-count.ensures)
