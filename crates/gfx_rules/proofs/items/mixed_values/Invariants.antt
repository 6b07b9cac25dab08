use Rattle.std.proofs.Common.{◌≡◌, flat_map, drop}
use Rattle.gfx_model.specs.Table as table
use Rattle.gfx_model.specs.Checks as words
use Rattle.gfx_rules.proofs.items.mixed_values.Given as goal

abbrev pub invariant-items : goal.invariant-items
invariant-items g l = let v = g.A.Answers.view l.answers in
    words.first_broken v (flat_map (table.mixed_region_value l.image) (drop l.item-index l.items)) ≡ words.first_broken v (flat_map (table.mixed_region_value l.image) l.items)
