use Rattle.std.proofs.Common.{◌≡◌, false, sym, subst}
use Rattle.gfx_tracker.specs.Registered.{IsRegistered, registered}
use Rattle.gfx_model.specs.After.{after}
use Rattle.gfx_model.specs.Steps.Step.{unsignals}
use Rattle.gfx_tracker.proofs.Flagged.{registered_set, answers_unsignalled}
use Rattle.gfx_tracker.proofs.registry.Registry.unsignal.Goals as goal

pub invariant_of-self : goal.invariant_of-self
invariant_of-self c =
    let r = c.args.self.now in
    record { kept = subst (λ t. IsRegistered r.objects t r.images) (sym c.set.ensures) (registered_set r.objects r.signals r.images r.kept c.args.id c.requires false) }

pub returns : goal.returns
returns c =
    let r = c.args.self.now in
    subst (λ t. registered r.objects t r.images ≡ after (registered r.objects r.signals r.images) (unsignals c.args.id)) (sym c.set.ensures)
    (answers_unsignalled r.objects r.signals r.images r.kept c.args.id c.requires)
