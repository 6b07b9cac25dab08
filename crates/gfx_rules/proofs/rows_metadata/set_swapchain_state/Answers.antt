use Rattle.std.proofs.Common.{◌∷◌, [], length, refl}
use Rattle.gfx_types.specs.declared.names.Kind.TheVariants as kind
use Rattle.gfx_model.specs.Table as table
use Rattle.gfx_model.specs.Checks as words
use Rattle.gfx_rules.proofs.Joined.{joins}
use Rattle.gfx_rules.proofs.rows_metadata.set_swapchain_state.Goals as goal

pub returns : goal.returns
unfolding table.row_of
returns g c =
    joins (g.A.Answers.view c.args.answers.now)
    (words.Check.live kind.Swapchain c.args.swapchain ∷ words.Check.one_each c.args.swapchain (length c.args.acquired.now) ∷ [])
    _ _ _ _ _ c.first_broken-front.ensures c.marks_each.ensures c.first.ensures refl
