use Rattle.std.proofs.Common.{◌≡◌, Some, ap, sym, subst, ◌∙◌}
use Rattle.std.specs.Prelude.{option_map}
use Rattle.gfx_objects.specs.Object.{detail_of, made}
use Rattle.gfx_objects.specs.Objects.{answers}
use Rattle.gfx_tracker.specs.Registered.{IsRegistered, registered, without_signal}
use Rattle.gfx_tracker.proofs.Registered.{registered_ended, answers_ended}
use Rattle.gfx_tracker.proofs.registry.Registry.end.Goals as goal

pub invariant_of-self : goal.invariant_of-self
invariant_of-self c =
    let r = c.args.self.now in
    let o = c.in-Some.object in
    let some : (answers r.objects).live c.args.id ≡ Some (made o) = sym c.get.ensures.live ∙ ap (option_map made) (sym c.copied.ensures ∙ c.in-Some.is) in
    record {
      kept = subst (λ t. IsRegistered c.remove.new.self t c.let_go.new.images) (sym c.let_go.ensures.signals)
          (subst (λ l. IsRegistered c.remove.new.self (without_signal c.args.id (detail_of o.detail) r.signals) l) (sym c.let_go.ensures.images)
          (registered_ended r.objects c.remove.new.self r.signals r.images c.args.id (made o) r.kept c.remove.ensures.step some));
    }

pub returns : goal.returns
returns c =
    let r = c.args.self.now in
    let o = c.in-Some.object in
    let some : (answers r.objects).live c.args.id ≡ Some (made o) = sym c.get.ensures.live ∙ ap (option_map made) (sym c.copied.ensures ∙ c.in-Some.is) in
    ap (λ t. registered c.remove.new.self t c.let_go.new.images) c.let_go.ensures.signals
    ∙ ap (λ l. registered c.remove.new.self (without_signal c.args.id (detail_of o.detail) r.signals) l) c.let_go.ensures.images
    ∙ answers_ended r.objects c.remove.new.self r.signals r.images c.args.id (made o) r.kept c.remove.ensures.step some
