use Rattle.std.proofs.Common.{arith}
use Rattle.gfx_types.specs.declared.names.Kind.TheVariants as kind
use Rattle.gfx_model.specs.Table as table
use Rattle.gfx_rules.proofs.Joined.{breaks, passes}
use Rattle.gfx_rules.proofs.items.resource_each.Goals as goal

pub returns-in-Some : goal.returns-in-Some
returns-in-Some g c =
    breaks (g.A.Answers.view c.args.answers.now) (λ b. table.res kind.Image c.args.cb b.image) c.args.items.now c.items.item-index _ _ _ (omega arith) c.in-Some.ensures c.items.invariant

pub items-preserved : goal.items-preserved
items-preserved g c =
    passes (g.A.Answers.view c.args.answers.now) (λ b. table.res kind.Image c.args.cb b.image) c.args.items.now c.items.item-index _ _ (omega arith) c.in_default.ensures c.items.invariant
