use Rattle.std.proofs.Common.{arith}
use Rattle.gfx_model.specs.Table as table
use Rattle.gfx_rules.proofs.Joined.{breaks_at, passes_at}
use Rattle.gfx_rules.proofs.submits.lengths_each.Goals as goal

pub returns-in-Some : goal.returns-in-Some
returns-in-Some g c =
    breaks_at (g.A.Answers.view c.args.answers.now) table.submit_lengths c.args.submits.now c.submits.submit-index c.submit-item.result _ _ (omega arith)
    c.submit-item.is c.in-Some.ensures c.submits.invariant

pub submits-preserved : goal.submits-preserved
submits-preserved g c =
    passes_at (g.A.Answers.view c.args.answers.now) table.submit_lengths c.args.submits.now c.submits.submit-index c.submit-item.result _ (omega arith)
    c.submit-item.is c.in_default.ensures c.submits.invariant
