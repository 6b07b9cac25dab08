use Rattle.std.proofs.Common.{◌≡◌, map, drop}
use Rattle.gfx_model.specs.Checks as words
use Rattle.gfx_rules.proofs.presents.acquired_each.Given as goal

abbrev pub invariant-items : goal.invariant-items
invariant-items g l = let v = g.A.Answers.view l.answers in
    words.first_broken v (map (λ p. words.Check.is_acquired p.swapchain p.index) (drop l.item-index l.items)) ≡ words.first_broken v (map (λ p. words.Check.is_acquired p.swapchain p.index) l.items)
