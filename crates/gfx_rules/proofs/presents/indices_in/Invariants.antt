use Rattle.std.proofs.Common.{◌≡◌, map, drop}
use Rattle.gfx_model.specs.Checks as words
use Rattle.gfx_rules.proofs.presents.indices_in.Given as goal

abbrev pub invariant-items : goal.invariant-items
invariant-items g l = let v = g.A.Answers.view l.answers in
    words.first_broken v (map (λ p. words.Check.index_in p.swapchain p.index) (drop l.item-index l.items)) ≡ words.first_broken v (map (λ p. words.Check.index_in p.swapchain p.index) l.items)
