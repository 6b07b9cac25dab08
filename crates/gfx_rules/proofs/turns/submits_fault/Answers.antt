use Rattle.std.proofs.Common.{ap, refl, length, arith}
use Rattle.gfx_rules.proofs.Executed.{submit_breaks, submit_passes, submits_end}
use Rattle.gfx_rules.proofs.Differing.{at_first, submit_passes_place}
use Rattle.gfx_rules.proofs.turns.submits_fault.Goals as goal

pub returns-in-Some : goal.returns-in-Some
returns-in-Some g c = submit_breaks (g.A.Answers.view c.args.answers.now) c.args.submits.now c.submits.at _ _ c.in-Some.ensures.fault c.submits.invariant.1

pub submits-preserved : goal.submits-preserved
submits-preserved g c = (
  submit_passes_place c.args.differing c.submits.at (c.in_default.ensures.passed refl),
  submit_passes (g.A.Answers.view c.args.answers.now) c.args.submits.now c.submits.at _ c.in_default.ensures.fault c.submits.invariant.1,
)

pub returns : goal.returns
returns g c = submits_end (g.A.Answers.view c.args.answers.now) c.args.submits.now c.submits.at _ (let e = ap length c.items-at-end.ensures in omega (arith, e)) c.submits.invariant.1

pub submits-init : goal.submits-init
submits-init g c = (at_first c.args.differing, refl)
