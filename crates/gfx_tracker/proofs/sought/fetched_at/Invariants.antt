use Rattle.std.proofs.Common.{◌≡◌, ◌-◌}
use Rattle.std.specs.Prelude.{flat_map, slice_get}
use Rattle.std.specs.List.{range_with_len}
use Rattle.gfx_model.specs.Views.{fetched}
use Rattle.gfx_objects.specs.Objects.{answers}
use Rattle.gfx_tracker.specs.Sought.{sought_in}
use Rattle.gfx_tracker.specs.declared.sought.Sought.TheVariants.{ImageAt}
use Rattle.gfx_tracker.proofs.sought.fetched_at.Given as goal

-- the place among all is what is left of it among the images from this index on
abbrev pub invariant-indices : goal.invariant-indices
invariant-indices l =
    slice_get (fetched (answers l.objects) l.swapchain) l.place
    ≡ slice_get (flat_map (λ k. sought_in (answers l.objects) (ImageAt l.swapchain k)) (range_with_len l.index (l.images - l.index))) l.left
