use Rattle.std.proofs.Common.{◌≡◌, true, sym, subst}
use Rattle.gfx_tracker.specs.Registered.{IsRegistered, registered}
use Rattle.gfx_model.specs.After.{after}
use Rattle.gfx_model.specs.Steps.Step.{acquires}
use Rattle.gfx_tracker.proofs.Flagged.{registered_marked, answers_acquired, marks_enough}
use Rattle.gfx_tracker.proofs.registry.Registry.acquire.Goals as goal

pub set-requires : goal.set-requires
set-requires c = let r = c.args.self.now in marks_enough r.objects r.signals r.images r.kept c.args.swapchain c.args.index c.requires.live c.requires.index

pub invariant_of-self : goal.invariant_of-self
invariant_of-self c =
    let r = c.args.self.now in
    record { kept = subst (λ m. IsRegistered r.objects r.signals m) (sym c.set.ensures) (registered_marked r.objects r.signals r.images r.kept c.args.swapchain c.args.index c.requires.live c.requires.index true) }

pub returns : goal.returns
returns c =
    let r = c.args.self.now in
    subst (λ m. registered r.objects r.signals m ≡ after (registered r.objects r.signals r.images) (acquires c.args.swapchain c.args.index)) (sym c.set.ensures)
    (answers_acquired r.objects r.signals r.images r.kept c.args.swapchain c.args.index c.requires.live c.requires.index)
