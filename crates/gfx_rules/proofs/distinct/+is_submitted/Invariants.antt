use Rattle.std.proofs.Common.{length}
use Rattle.gfx_rules.proofs.distinct.+is_submitted.Given as goal

abbrev pub decreases-is_submitted : goal.decreases-is_submitted
decreases-is_submitted l = length l.submits.now
