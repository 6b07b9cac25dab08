use Rattle.std.proofs.Common.{◌∷◌, [], sym, subst, ◌∙◌}
use Rattle.gfx_objects.specs.Object.{detail_of}
use Rattle.gfx_tracker.specs.Tracker.{answers}
use Rattle.gfx_needed.specs.Grounds.{linked}
use Rattle.gfx_needed.specs.NeededIds.{Marks}
use Rattle.gfx_needed.proofs.Marking.{marks_then}
use Rattle.gfx_needed.proofs.Walking.{fetched_same, still_ok}
use Rattle.gfx_needed.proofs.needed.NeededIds.mark_linked.Goals as goal

pub returns-in_ok-pictures-in-Swapchain : goal.returns-in_ok-pictures-in-Swapchain
returns-in_ok-pictures-in-Swapchain c =
    let v = answers c.args.tracker.now in
    let ids = c.deref.ensures.value ∙ c.in_ok-pictures-in-Swapchain.ensures.ids ∙ fetched_same _ v c.objects.ensures c.args.id in
    still_ok c.mark_all.result _ _ c.mark_all.ensures (λ m.
    subst (λ d. Marks v (linked v c.args.id (detail_of d)) c.args.self.now c.mark_all.new.self) (sym c.in-Swapchain.is)
    (marks_then v (c.in-Swapchain.surface ∷ []) _ c.args.self.now c.mark.new.self c.mark_all.new.self c.in_ok-mark-in-Swapchain.ensures
    (subst (λ l. Marks v l c.mark.new.self c.mark_all.new.self) ids m)))
