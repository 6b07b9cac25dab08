use Rattle.std.proofs.Common.{◌∷◌, ◌++◌, ◌==◌, ◌&&◌, [], nat_le, if◌then◌else◌, map, refl}
use Rattle.gfx_types.specs.declared.names.Kind.TheVariants as kind
use Rattle.gfx_model.specs.Table as table
use Rattle.gfx_model.specs.Checks as words
use Rattle.gfx_model.specs.Limits.{max_list_length}
use Rattle.gfx_rules.proofs.Joined.{joins}
use Rattle.gfx_rules.proofs.rows_signals.wait_for_fences.Goals as goal

pub returns : goal.returns
unfolding table.row_of
returns g c = let fences = c.args.fences.now in
    joins (g.A.Answers.view c.args.answers.now)
    (words.Check.live kind.Device c.args.device ∷ table.between 1 max_list_length fences ++ (map (words.Check.live kind.Fence) fences ++ map (λ f. words.Check.of f c.args.device) fences))
    (table.value (nat_le c.args.wait_all 1 && words.is_among c.args.answer (0 ∷ 2 ∷ []))
    ∷ (if c.args.wait_all == 1 then words.Check.tells_all (c.args.answer == 0) fences else words.Check.tells_some (c.args.answer == 0) fences) ∷ [])
    _ _ _ _ c.fences_fault-front.ensures c.told_fault.ensures c.first.ensures refl
