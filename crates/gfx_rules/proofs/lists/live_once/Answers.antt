use Rattle.std.proofs.Common.{◌∙◌, ◌∷◌, [], get_or, not, ap, arith}
use Rattle.gfx_types.specs.declared.names.Kind.TheVariants as kind
use Rattle.gfx_types.specs.declared.names.Fault.TheVariants.{NotLive}
use Rattle.gfx_model.specs.Checks as words
use Rattle.gfx_rules.proofs.Counted.{apart_at}
use Rattle.gfx_rules.proofs.New.{once_breaks, once_passes, among_behind, above_more, below_more}
use Rattle.gfx_rules.proofs.lists.live_once.Goals as goal

pub returns-in-Some : goal.returns-in-Some
returns-in-Some g c = let v = g.A.Answers.view c.args.answers.now in
    once_breaks v kind.CommandBuffer c.args.ids.now c.ids.at _ _ (omega arith)
    (c.in-Some.ensures ∙ ap (λ b. words.first_broken v (words.Check.live kind.CommandBuffer (get_or c.args.ids.now c.ids.at 0) ∷ words.Check.must NotLive (not b) ∷ []))
    (c.is_among_between-is_earlier.ensures ∙ among_behind c.args.ids.now c.ids.at _)) c.ids.invariant.left

pub ids-preserved : goal.ids-preserved
ids-preserved g c = let v = g.A.Answers.view c.args.answers.now in record {
  left = once_passes v kind.CommandBuffer c.args.ids.now c.ids.at _ (omega arith)
      (c.in_default.ensures ∙ ap (λ b. words.first_broken v (words.Check.live kind.CommandBuffer (get_or c.args.ids.now c.ids.at 0) ∷ words.Check.must NotLive (not b) ∷ []))
      (c.is_among_between-is_earlier.ensures ∙ among_behind c.args.ids.now c.ids.at _)) c.ids.invariant.left;
  above = above_more c.args.ids.now c.ids.at c.ids.greatest c.max-greatest.result (omega arith) c.ids.invariant.above (omega arith) (omega arith);
  below = below_more c.args.ids.now c.ids.at c.ids.least c.min-least.result (omega arith) c.ids.invariant.below (omega arith) (omega arith);
}

pub is_among_between-is_earlier-requires-clause-apart : goal.is_among_between-is_earlier-requires-clause-apart
is_among_between-is_earlier-requires-clause-apart g c = λ yes. apart_at c.args.ids.now c.ids.at (omega arith) (c.stand_apart-apart.ensures yes)
