use Rattle.std.proofs.Common.{◌∷◌, ◌++◌, [], refl}
use Rattle.gfx_types.specs.declared.names.Kind.TheVariants as kind
use Rattle.gfx_model.specs.Table as table
use Rattle.gfx_model.specs.Checks as words
use Rattle.gfx_rules.proofs.Joined.{joins}
use Rattle.gfx_rules.proofs.rows_memory.map_memory.Goals as goal

pub returns : goal.returns
unfolding table.row_of
returns g c =
    joins (g.A.Answers.view c.args.answers.now)
    (table.of_device kind.Memory c.args.device c.args.memory ++ table.value (table.is_positive c.args.size) ∷ [])
    (table.span c.args.memory c.args.offset c.args.size ++ words.Check.unmapped c.args.memory ∷ []) _ _ _ _ c.first_broken-front.ensures
    (joins _ (table.span c.args.memory c.args.offset c.args.size) (words.Check.unmapped c.args.memory ∷ []) _ _ _ _ c.span-range.ensures c.first_broken-unmapped.ensures c.first.ensures refl)
    c.first-2.ensures refl
