use Rattle.std.proofs.Common.{◌∙◌, arith}
use Rattle.gfx_rules.proofs.Counted.{apart_at}
use Rattle.gfx_rules.proofs.New.{breaks, passes, among_behind, above_more, below_more, behind}
use Rattle.gfx_rules.proofs.ids.new_faults.Goals as goal

pub returns-in-Some : goal.returns-in-Some
returns-in-Some g c =
    breaks (g.A.Answers.view c.args.answers.now) c.args.ids.now c.ids.at _ _ (omega arith)
    (c.in-Some.ensures (behind c.args.ids.now c.ids.at) (c.is_among_between-is_earlier.ensures ∙ among_behind c.args.ids.now c.ids.at _)) c.ids.invariant.left

pub ids-preserved : goal.ids-preserved
ids-preserved g c = record {
  left = passes (g.A.Answers.view c.args.answers.now) c.args.ids.now c.ids.at _ (omega arith)
      (c.in_default.ensures (behind c.args.ids.now c.ids.at) (c.is_among_between-is_earlier.ensures ∙ among_behind c.args.ids.now c.ids.at _)) c.ids.invariant.left;
  above = above_more c.args.ids.now c.ids.at c.ids.greatest c.max-greatest.result (omega arith) c.ids.invariant.above (omega arith) (omega arith);
  below = below_more c.args.ids.now c.ids.at c.ids.least c.min-least.result (omega arith) c.ids.invariant.below (omega arith) (omega arith);
}

pub is_among_between-is_earlier-requires-clause-apart : goal.is_among_between-is_earlier-requires-clause-apart
is_among_between-is_earlier-requires-clause-apart g c = λ yes. apart_at c.args.ids.now c.ids.at (omega arith) (c.stand_apart-apart.ensures yes)
