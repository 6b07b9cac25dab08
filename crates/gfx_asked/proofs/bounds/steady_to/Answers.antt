use Rattle.std.proofs.Common.{arith}
use Rattle.gfx_asked.specs.Bounds.{change_at}
use Rattle.gfx_asked.proofs.Changes.{goes_on}
use Rattle.gfx_asked.proofs.bounds.steady_to.Goals as goal

pub returns-in-Some-clause-steady : goal.returns-in-Some-clause-steady
returns-in-Some-clause-steady c = λ j low high. goes_on (change_at c.args.bounds.now) c.args.number j low (λ q lt le. c.in-Some.ensures.steady q lt (omega (arith, le, high)))

pub returns-in-None-clause-steady : goal.returns-in-None-clause-steady
returns-in-None-clause-steady c = λ j low high. goes_on (change_at c.args.bounds.now) c.args.number j low (λ q lt le. c.in-None.ensures q lt (omega (arith, le, high)))
