use Rattle.std.proofs.Common.{length}
use Rattle.gfx_rules.proofs.distinct.+are_submitted_once.Given as goal

abbrev pub decreases-are_submitted_once : goal.decreases-are_submitted_once
decreases-are_submitted_once l = length l.submits.now
