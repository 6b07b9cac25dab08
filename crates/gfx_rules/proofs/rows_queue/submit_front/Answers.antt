use Rattle.std.proofs.Common.{◌∷◌, refl}
use Rattle.gfx_types.specs.declared.names.Kind.TheVariants as kind
use Rattle.gfx_model.specs.Table as table
use Rattle.gfx_model.specs.Checks as words
use Rattle.gfx_model.specs.Limits.{max_submits}
use Rattle.gfx_rules.proofs.Joined.{stops, goes_on}
use Rattle.gfx_rules.proofs.rows_queue.submit_front.Goals as goal

pub returns-in-Some : goal.returns-in-Some
returns-in-Some g c =
    stops (g.A.Answers.view c.args.answers.now) (words.Check.live kind.Queue c.args.queue ∷ table.between 0 max_submits c.args.submits.now) _ _ _ c.in-Some.ensures refl

pub returns-in-None : goal.returns-in-None
returns-in-None g c =
    goes_on (g.A.Answers.view c.args.answers.now) (words.Check.live kind.Queue c.args.queue ∷ table.between 0 max_submits c.args.submits.now) _ _ _ c.in-None.ensures c.lengths_each.ensures refl
