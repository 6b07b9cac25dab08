use Rattle.std.proofs.Common.{length}
use Rattle.gfx_rules.proofs.broken.+first_broken.Given as goal

abbrev pub decreases-first_broken : goal.decreases-first_broken
decreases-first_broken g l = length l.checks.now
