use Rattle.std.proofs.Common.{◌≡◌, true, is_some, take}
use Rattle.std.specs.List.{list_all}
use Rattle.std.specs.FinMap as map
use Rattle.gfx_model.specs.Events.{event_of_call}
use Rattle.gfx_model.specs.Steps.{resources_of}
use Rattle.gfx_commands.proofs.uses.Uses.names_all.Given as goal

-- the resources so far are named
abbrev pub invariant-resources : goal.invariant-resources
invariant-resources l = list_all (λ x. is_some (map.get l.self.table.map x)) (take l.at (resources_of (event_of_call l.call))) ≡ true
