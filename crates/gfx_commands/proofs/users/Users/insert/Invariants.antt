use Rattle.std.proofs.Common.{◌≡◌, ◌==◌, ◌&&◌, ◌||◌, take}
use Rattle.gfx_table.specs.Groups.{is_member}
use Rattle.gfx_model.specs.Events.{event_of_call}
use Rattle.gfx_model.specs.Steps.{resources_of}
use Rattle.gfx_model.specs.Checks.{is_among}
use Rattle.gfx_commands.specs.Users.{HasRoom}
use Rattle.gfx_commands.proofs.users.Users.insert.Given as goal

-- the buffer is a user of the resources so far, and there is room for it among those of the others
abbrev pub invariant-resources : goal.invariant-resources
invariant-resources l = record {
  users : is_member l.self.groups.sets.map ≡ (λ x y. (l.cb == y && is_among x (take l.at (resources_of (event_of_call l.call)))) || is_member l.fn.self.groups.sets.map x y);
  room : HasRoom l.self.groups.sets.map l.cb (resources_of (event_of_call l.call));
}
