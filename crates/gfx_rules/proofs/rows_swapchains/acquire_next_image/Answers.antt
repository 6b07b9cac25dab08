use Rattle.std.proofs.Common.{◌∷◌, ◌++◌, ◌==◌, ◌||◌, [], nat_le, not, refl}
use Rattle.gfx_types.specs.declared.names.Kind.TheVariants as kind
use Rattle.gfx_model.specs.Table as table
use Rattle.gfx_rules.proofs.Joined.{joins}
use Rattle.gfx_rules.proofs.rows_swapchains.acquire_next_image.Goals as goal

pub returns : goal.returns
unfolding table.row_of
returns g c =
    let v = g.A.Answers.view c.args.answers.now in
    let signals = table.to_signal kind.Semaphore c.args.device c.args.semaphore ++ table.to_signal kind.Fence c.args.device c.args.fence in
    let acquired = table.value (nat_le c.args.answer 1) ∷ table.acquire_answer c.args.swapchain c.args.index c.args.answer in
    joins v
    (table.of_device kind.Swapchain c.args.device c.args.swapchain ++ table.value (not (c.args.semaphore == 0) || not (c.args.fence == 0)) ∷ [])
    (signals ++ acquired) _ _ _ _ c.acquire_front-front.ensures
    (joins v signals acquired _ _ _ _
    (joins v (table.to_signal kind.Semaphore c.args.device c.args.semaphore) (table.to_signal kind.Fence c.args.device c.args.fence) _ _ _ _
    c.to_signal-semaphores.ensures c.to_signal-fences.ensures c.first.ensures refl)
    c.acquired_fault-acquired.ensures c.first-2.ensures refl)
    c.first-3.ensures refl
