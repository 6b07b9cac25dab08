use Rattle.gfx_objects.specs.Object.{detail_of}
use Rattle.gfx_tracker.proofs.Registered.{registered_owned, answers_owned, none_of}
use Rattle.gfx_tracker.proofs.registry.Registry.create_owned.Goals as goal

pub invariant_of-self : goal.invariant_of-self
invariant_of-self c =
    let r = c.args.self.now in
    record { kept = registered_owned r.objects c.create.new.self r.signals r.images c.args.id c.args.parent (detail_of c.args.detail) r.kept c.create.ensures.step (none_of _ c.requires.fresh) c.requires.plain c.requires.bare }

pub returns-clause-step : goal.returns-clause-step
returns-clause-step c =
    let r = c.args.self.now in
    answers_owned r.objects c.create.new.self r.signals r.images c.args.id c.args.parent (detail_of c.args.detail) r.kept c.create.ensures.step (none_of _ c.requires.fresh) c.requires.plain c.requires.bare
