use Rattle.std.proofs.Common.{◌≡◌, ◌≤◌, ℕ, true, take}
use Rattle.gfx_table.specs.Groups.{is_member, room_in}
use Rattle.gfx_model.specs.Events.{event_of_call}
use Rattle.gfx_model.specs.Steps.{resources_of}
use Rattle.gfx_model.specs.Checks.{is_among}
use Rattle.gfx_commands.proofs.users.Users.reserve.Given as goal

-- there is room for one more user of the resources so far
abbrev pub invariant-resources : goal.invariant-resources
invariant-resources l = record {
  same : is_member l.self.groups.sets.map ≡ is_member l.fn.self.groups.sets.map;
  room : (x : ℕ) → is_among x (take l.at (resources_of (event_of_call l.call))) ≡ true → 1 ≤ room_in l.self.groups.sets.map x;
}
