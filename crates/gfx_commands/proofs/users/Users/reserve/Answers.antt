use Rattle.std.proofs.Common.{◌∙◌}
use Rattle.gfx_model.specs.Events.{event_of_call}
use Rattle.gfx_model.specs.Steps.{resources_of}
use Rattle.gfx_commands.proofs.Naming.{room_more}
use Rattle.gfx_commands.proofs.users.Users.reserve.Goals as goal

pub resources-preserved : goal.resources-preserved
resources-preserved c =
    let xs = resources_of (event_of_call c.args.call.now) in
    record {
      same = c.reserve.ensures.same ∙ c.resources.invariant.same;
      room = room_more c.resources.self.groups.sets.map c.reserve.new.self.sets.map xs c.resources.at c.in-Some.resource c.in-Some.ensures c.resources.invariant.room
          c.in_ok-reserve.ensures.ok c.reserve.ensures.room;
    }
