-- The commands of a buffer, and what is kept beside them.
use Rattle.std.specs.Prelude.{List, length, flat_map}
use Rattle.std.specs.List.{AllByRecursion}
use Rattle.gfx_model.specs.Steps.{resources_of}
use Rattle.gfx_model.specs.Checks.{layouts_of}
use Rattle.gfx_commands.specs.declared.commands.Commands.TheInside.{Inside}
use Rattle.gfx_commands.specs.Commands.{Spelled, IsCut, IsSpelled, cut, events_in}
use Rattle.gfx_commands.specs.Uses.{IsIndex}

-- the commands, whose fields stand one after another
abbrev pub spelled_in : Inside → List Spelled
spelled_in c = cut 0 c.fields.items c.commands.items

-- all fields are those of commands, and the index beside them is theirs
pub record IsKept (c : Inside) : Type 0 where
  pub cuts : IsCut 0 c.commands.items (length c.fields.items)
  pub each : AllByRecursion IsSpelled (spelled_in c)
  pub index : IsIndex c.uses.table.map c.uses.agrees (flat_map resources_of (events_in (spelled_in c))) (flat_map layouts_of (events_in (spelled_in c)))
