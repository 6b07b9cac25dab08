use Rattle.std.proofs.Common.{◌≡◌, ◌++◌, ◌-◌}
use Rattle.gfx_types.specs.declared.names.Kind.TheVariants as kind
use Rattle.gfx_model.specs.Views.{fetched}
use Rattle.gfx_objects.specs.Objects.{answers}
use Rattle.gfx_state.specs.Ids.{owned_in}
use Rattle.gfx_state.proofs.Listing.{images_at}
use Rattle.gfx_state.proofs.ids.fetched.Given as goal

-- the images are those so far, and then those at the indices that are left
abbrev pub invariant-indices : goal.invariant-indices
invariant-indices l =
    fetched (answers l.objects) l.swapchain
    ≡ l.ids.items ++ images_at (answers l.objects) (owned_in (answers l.objects) kind.Image l.swapchain) l.index (l.images - l.index)
