use Rattle.std.proofs.Common.{◌≡◌, map, drop}
use Rattle.gfx_model.specs.Table as table
use Rattle.gfx_model.specs.Checks as words
use Rattle.gfx_rules.proofs.items.barrier_values.Given as goal

abbrev pub invariant-items : goal.invariant-items
invariant-items g l = let v = g.A.Answers.view l.answers in
    words.first_broken v (map table.barrier_value (drop l.item-index l.items)) ≡ words.first_broken v (map table.barrier_value l.items)
