use Rattle.std.proofs.Common.{◌≡◌, ◌≤◌, ◌+◌, None, ap, sym, subst, ◌∙◌}
use Rattle.gfx_model.specs.Steps.Step.{creates}
use Rattle.gfx_model.specs.Views.{View, live_bytes, detail_bytes}
use Rattle.gfx_model.specs.After.{after}
use Rattle.gfx_model.specs.Limits.{max_live_bytes}
use Rattle.gfx_objects.specs.Object.{detail_of}
use Rattle.gfx_objects.specs.Objects.{answers}
use Rattle.gfx_tracker.specs.Registered.{IsRegistered, registered, with_signal}
use Rattle.gfx_tracker.proofs.Registered.{registered_along, answers_along, registered_made, answers_made, none_of}
use Rattle.gfx_tracker.proofs.registry.Registry.create.Goals as goal

pub create-requires-clause-bytes : goal.create-requires-clause-bytes
create-requires-clause-bytes c =
    subst (λ v. live_bytes v + detail_bytes (detail_of c.args.detail) ≤ max_live_bytes) (sym c.reserve.ensures.same) c.requires.bytes

pub invariant_of-self-2 : goal.invariant_of-self-2
invariant_of-self-2 c =
    let r = c.args.self.now in
    let d = detail_of c.args.detail in
    let k = c.reserve.new.self in
    let inv : IsRegistered k r.signals r.images = registered_along r.objects k r.signals r.images r.kept c.reserve.ensures.same in
    let none : (answers k).live c.args.id ≡ None = ap (λ (v : View). v.live c.args.id) c.reserve.ensures.same ∙ none_of _ c.requires.fresh in
    record {
      kept = subst (λ t. IsRegistered c.create.new.self t c.keep.new.images) (sym c.in_ok-keep.ensures.signals)
          (subst (λ l. IsRegistered c.create.new.self (with_signal c.args.id d r.signals) l) (sym c.in_ok-keep.ensures.images)
          (registered_made k c.create.new.self r.signals r.images c.args.id c.args.parent d inv c.create.ensures.step none));
    }

pub returns-clause-ok : goal.returns-clause-ok
returns-clause-ok c =
    let r = c.args.self.now in
    let d = detail_of c.args.detail in
    let k = c.reserve.new.self in
    let inv : IsRegistered k r.signals r.images = registered_along r.objects k r.signals r.images r.kept c.reserve.ensures.same in
    let none : (answers k).live c.args.id ≡ None = ap (λ (v : View). v.live c.args.id) c.reserve.ensures.same ∙ none_of _ c.requires.fresh in
    ap (λ t. registered c.create.new.self t c.keep.new.images) c.in_ok-keep.ensures.signals
    ∙ ap (λ l. registered c.create.new.self (with_signal c.args.id d r.signals) l) c.in_ok-keep.ensures.images
    ∙ answers_made k c.create.new.self r.signals r.images c.args.id c.args.parent d inv c.create.ensures.step none
    ∙ ap (λ v. after v (creates c.args.id c.args.parent d)) (answers_along r.objects k r.signals r.images c.reserve.ensures.same)
