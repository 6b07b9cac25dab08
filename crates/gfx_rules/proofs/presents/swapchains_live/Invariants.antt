use Rattle.std.proofs.Common.{◌≡◌, map, drop}
use Rattle.gfx_types.specs.declared.names.Kind.TheVariants as kind
use Rattle.gfx_model.specs.Checks as words
use Rattle.gfx_rules.proofs.presents.swapchains_live.Given as goal

abbrev pub invariant-items : goal.invariant-items
invariant-items g l = let v = g.A.Answers.view l.answers in
    words.first_broken v (map (words.Check.live kind.Swapchain) (map (λ p. p.swapchain) (drop l.item-index l.items))) ≡ words.first_broken v (map (words.Check.live kind.Swapchain) (map (λ p. p.swapchain) l.items))
