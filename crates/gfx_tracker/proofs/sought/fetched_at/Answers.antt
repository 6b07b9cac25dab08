use Rattle.std.proofs.Common.{ℕ, ◌-◌, ◌+◌, ap, sym, ◌∙◌}
use Rattle.std.specs.Prelude.{flat_map, slice_get}
use Rattle.std.specs.List.{range_with_len}
use Rattle.gfx_objects.specs.Objects.{answers}
use Rattle.gfx_tracker.specs.Sought.{sought_in}
use Rattle.gfx_tracker.specs.declared.sought.Sought.TheVariants.{ImageAt}
use Rattle.gfx_tracker.proofs.Seeking.{flat_step}
use Rattle.gfx_tracker.proofs.sought.fetched_at.Goals as goal

pub returns-in-Ok : goal.returns-in-Ok
returns-in-Ok c =
    let images = λ (k : ℕ). sought_in (answers c.args.objects.now) (ImageAt c.args.swapchain k) in
    let n = c.images-images.result in
    let behind = flat_map images (range_with_len (c.indices.index + 1) (n - (c.indices.index + 1))) in
    sym (c.indices.invariant ∙ ap (λ l. slice_get l c.indices.left) (flat_step images n c.indices.index c.indices-test.true) ∙ c.in-Ok.ensures.found behind)

pub indices-preserved : goal.indices-preserved
indices-preserved c =
    let images = λ (k : ℕ). sought_in (answers c.args.objects.now) (ImageAt c.args.swapchain k) in
    let n = c.images-images.result in
    let behind = flat_map images (range_with_len (c.indices.index + 1) (n - (c.indices.index + 1))) in
    c.indices.invariant ∙ ap (λ l. slice_get l c.indices.left) (flat_step images n c.indices.index c.indices-test.true) ∙ c.in-Err.ensures.passed behind
