use Rattle.std.proofs.Common.{sym, arith}
use Rattle.gfx_model.specs.Views as views
use Rattle.gfx_rules.proofs.Fetched.{missing, other, same, ended}
use Rattle.gfx_rules.proofs.ids.are_fetched.Goals as goal

pub returns-in-None : goal.returns-in-None
returns-in-None g c =
    missing (views.fetched (g.A.Answers.view c.args.answers.now) c.args.swapchain) c.args.images.now c.images.at _ (omega arith) c.in-None.ensures c.images.invariant

pub returns-then-fetched-image : goal.returns-then-fetched-image
returns-then-fetched-image g c =
    other (views.fetched (g.A.Answers.view c.args.answers.now) c.args.swapchain) c.args.images.now c.images.at _ _ (omega arith) c.in-Some.ensures c.if-fetched-image.true c.images.invariant

pub images-preserved : goal.images-preserved
images-preserved g c =
    same (views.fetched (g.A.Answers.view c.args.answers.now) c.args.swapchain) c.args.images.now c.images.at _ _ (omega arith) c.in-Some.ensures c.if-fetched-image.false c.images.invariant

pub returns : goal.returns
returns g c =
    ended (views.fetched (g.A.Answers.view c.args.answers.now) c.args.swapchain) c.args.images.now c.images.at _ _ _ (omega arith) c.fetched_at-2.ensures (sym c.is_none.ensures) c.images.invariant
