use Rattle.std.proofs.Common.{◌≡◌, ◌&&◌, map, drop}
use Rattle.gfx_model.specs.Table as table
use Rattle.gfx_model.specs.Checks as words
use Rattle.gfx_rules.proofs.items.image_extents.Given as goal

abbrev pub invariant-items : goal.invariant-items
invariant-items g l = let v = g.A.Answers.view l.answers in
    words.first_broken v (map (λ r. table.value (table.is_positive r.width && table.is_positive r.height)) (drop l.item-index l.items)) ≡ words.first_broken v (map (λ r. table.value (table.is_positive r.width && table.is_positive r.height)) l.items)
