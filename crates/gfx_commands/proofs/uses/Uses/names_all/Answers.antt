use Rattle.std.proofs.Common.{is_some, sym, ◌∙◌}
use Rattle.std.specs.FinMap as map
use Rattle.gfx_model.specs.Events.{event_of_call}
use Rattle.gfx_model.specs.Steps.{resources_of}
use Rattle.gfx_commands.proofs.Naming.{all_more, one_fails}
use Rattle.gfx_commands.proofs.uses.Uses.names_all.Goals as goal

pub returns-then-not-names : goal.returns-then-not-names
returns-then-not-names c =
    one_fails (λ x. is_some (map.get c.args.self.now.table.map x)) (resources_of (event_of_call c.args.call.now)) c.resources.at c.in-Some.resource c.in-Some.ensures
    (sym c.names.ensures ∙ c.if-not-names.true)

pub resources-preserved : goal.resources-preserved
resources-preserved c =
    all_more (λ x. is_some (map.get c.args.self.now.table.map x)) (resources_of (event_of_call c.args.call.now)) c.resources.at c.in-Some.resource c.in-Some.ensures
    c.resources.invariant (sym c.names.ensures ∙ c.if-not-names.false)
