use Rattle.std.proofs.Common.{◌≡◌, ◌∷◌, [], ◌++◌, Some, sym, ap, subst, ◌∙◌}
use Rattle.std.specs.Prelude.{option_map}
use Rattle.std.specs.Option.{option_map_or}
use Rattle.gfx_model.specs.Steps.{Object}
use Rattle.gfx_objects.specs.Object.{made}
use Rattle.gfx_tracker.specs.Tracker.{answers}
use Rattle.gfx_needed.specs.Grounds.{linked, memory_under}
use Rattle.gfx_needed.specs.NeededIds.{Marks}
use Rattle.gfx_needed.proofs.Marking.{marks_then}
use Rattle.gfx_needed.proofs.Walking.{still_ok}
use Rattle.gfx_needed.proofs.needed.NeededIds.mark_grounds.Goals as goal

pub returns : goal.returns
returns c =
    let v = answers c.args.tracker.now in
    let id = c.args.id in
    let live : v.live id ≡ Some (made c.in-Some.object) = ap (λ f. f id) (sym c.objects.ensures.live) ∙ sym (ap (option_map made) c.in-Some.ensures ∙ c.get.ensures.live) in
    still_ok c.mark_linked.result _ _ c.mark_linked.ensures (λ m.
    subst (λ l. Marks v (option_map_or (λ (o : Object). (o.parent ∷ []) ++ memory_under v id ++ linked v id o.detail) l []) c.args.self.now c.mark_linked.new.self) (sym live)
    (marks_then v _ _ c.args.self.now c.mark_memory.new.self c.mark_linked.new.self
    (marks_then v _ _ c.args.self.now c.mark.new.self c.mark_memory.new.self c.in_ok-mark.ensures c.in_ok-mark_memory.ensures) m))
