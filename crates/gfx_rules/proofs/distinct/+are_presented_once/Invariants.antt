use Rattle.std.proofs.Common.{length}
use Rattle.gfx_rules.proofs.distinct.+are_presented_once.Given as goal

abbrev pub decreases-are_presented_once : goal.decreases-are_presented_once
decreases-are_presented_once l = length l.presents.now
