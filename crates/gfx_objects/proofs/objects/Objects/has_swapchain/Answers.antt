use Rattle.std.proofs.Common.{nat_lt, ap, ◌∙◌}
use Rattle.gfx_model.specs.Views.{has_swapchain}
use Rattle.gfx_objects.specs.Objects.{answers}
use Rattle.gfx_objects.specs.Inside.{kept_of}
use Rattle.gfx_objects.proofs.Asked.{swapchains_answered}
use Rattle.gfx_objects.proofs.objects.Objects.has_swapchain.Goals as goal

pub returns : goal.returns
returns c =
    ap (nat_lt 0) (c.get.ensures ∙ c.self.invariant.grouped.by_surface c.args.surface) ∙ swapchains_answered (kept_of c.self.inside) c.args.surface
    ∙ ap (λ k. has_swapchain (answers k) c.args.surface) c.self.view_is
