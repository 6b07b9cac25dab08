use Rattle.std.proofs.Common.{◌≡◌, ◌==◌, ◌&&◌, false, if◌then◌else◌, take}
use Rattle.gfx_table.specs.Groups.{is_member}
use Rattle.gfx_model.specs.Checks.{is_among}
use Rattle.gfx_commands.proofs.users.Users.forget.Given as goal

-- the buffer is no user of the resources so far
abbrev pub invariant-resources : goal.invariant-resources
invariant-resources l =
    is_member l.self.groups.sets.map ≡ (λ x y. if l.cb == y && is_among x (take l.resource-index l.resource-items) then false else is_member l.fn.self.groups.sets.map x y)
