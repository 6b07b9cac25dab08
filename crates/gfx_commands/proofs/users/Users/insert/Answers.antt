use Rattle.std.proofs.Common.{◌==◌, ◌&&◌, ◌||◌, ap, ◌∙◌, arith}
use Rattle.std.proofs.lemmas.List.{take_all}
use Rattle.gfx_table.specs.Groups.{is_member}
use Rattle.gfx_model.specs.Events.{event_of_call}
use Rattle.gfx_model.specs.Steps.{resources_of}
use Rattle.gfx_model.specs.Checks.{is_among}
use Rattle.gfx_commands.proofs.Naming.{found_among, room_left, users_more}
use Rattle.gfx_commands.proofs.users.Users.insert.Goals as goal

pub insert-requires : goal.insert-requires
insert-requires c = c.resources.invariant.room c.in-Some.resource (found_among (resources_of (event_of_call c.args.call.now)) c.resources.at c.in-Some.resource c.in-Some.ensures)

pub resources-preserved : goal.resources-preserved
resources-preserved c =
    let xs = resources_of (event_of_call c.args.call.now) in
    record {
      users = users_more c.resources.self.groups.sets.map c.insert.new.self.sets.map xs c.resources.at c.in-Some.resource c.in-Some.ensures c.args.cb c.insert.ensures.members
          (is_member c.args.self.now.groups.sets.map) c.resources.invariant.users;
      room = room_left c.resources.self.groups.sets.map c.insert.new.self.sets.map xs c.resources.at c.in-Some.resource c.in-Some.ensures c.args.cb c.insert.ensures.members
          c.resources.invariant.room c.insert.ensures.room;
    }

pub returns : goal.returns
returns c =
    let xs = resources_of (event_of_call c.args.call.now) in
    let all = take_all c.resources.at xs (omega (arith, c.resources-test.false, c.resources_in-at-end.ensures)) in
    c.resources.invariant.users ∙ ap (λ xs x y. (c.args.cb == y && is_among x xs) || is_member c.args.self.now.groups.sets.map x y) all
