use Rattle.std.proofs.Common.{◌∷◌, ◌∙◌, [], map, ap, refl}
use Rattle.gfx_types.specs.declared.names.Kind.TheVariants as kind
use Rattle.gfx_model.specs.Table as table
use Rattle.gfx_model.specs.Checks as words
use Rattle.gfx_rules.proofs.Joined.{joins}
use Rattle.gfx_rules.proofs.rows_queue.swapchains_fault.Goals as goal

pub returns : goal.returns
returns g c = let v = g.A.Answers.view c.args.answers.now in
    let swapchains = map (λ p. p.swapchain) c.args.presents.now in
    joins v (table.near_each kind.Swapchain c.args.queue swapchains) (table.value (words.is_distinct swapchains) ∷ []) _ _ _ _
    (joins v (map (words.Check.live kind.Swapchain) swapchains) (map (λ y. words.Check.near y c.args.queue) swapchains) _ _ _ _
    c.swapchains_live-live.ensures c.swapchains_near.ensures c.first-near.ensures refl)
    (c.first_broken.ensures ∙ ap (λ b. words.first_broken v (table.value b ∷ [])) c.are_presented_once.ensures)
    c.first.ensures refl
