use Rattle.std.proofs.Common.{◌≡◌, true, ap, sym, ◌∙◌, ◌==◌, ◌&&◌, ◌||◌, arith}
use Rattle.std.specs.List.{list_all}
use Rattle.gfx_model.specs.Events.{event_of_call}
use Rattle.gfx_model.specs.Steps.{resources_of}
use Rattle.gfx_model.specs.Checks.{is_among}
use Rattle.gfx_commands.specs.Recording.{names}
use Rattle.gfx_commands.specs.Recordings.{buffers}
use Rattle.gfx_commands.proofs.Indexed.{added, none_added, each_passes, users_same}
use Rattle.gfx_commands.proofs.recordings.Recordings.add.Goals as goal

pub invariant_of-self : goal.invariant_of-self
invariant_of-self c = λ r x. c.self.invariant r x ∙ sym (ap (λ m. names r (buffers m x)) c.in_err-add.ensures.err)

pub invariant_of-self-then-names_all : goal.invariant_of-self-then-names_all
invariant_of-self-then-names_all c =
    let u = c.self.inside.users.groups.sets.map in
    let b = buffers c.self.inside.rows.map in
    let xs = resources_of (event_of_call c.args.call.now) in
    let test = c.names_all.ensures in
    let yes = c.if-names_all.true in
    let all : list_all (λ x. names x (b c.args.cb)) xs ≡ true = grind (arith, test, yes) in
    none_added u u b (buffers c.add.new.self.map) c.self.invariant c.args.cb (event_of_call c.args.call.now) c.in_ok-add.ensures.ok (each_passes (λ x. names x (b c.args.cb)) xs all)

pub invariant_of-self-in_err-reserve : goal.invariant_of-self-in_err-reserve
invariant_of-self-in_err-reserve c =
    users_same c.self.inside.users.groups.sets.map c.reserve.new.self.groups.sets.map (buffers c.self.inside.rows.map) c.in_err-reserve.ensures.same c.self.invariant

pub invariant_of-self-in_err-add-2 : goal.invariant_of-self-in_err-add-2
invariant_of-self-in_err-add-2 c =
    users_same c.self.inside.users.groups.sets.map c.reserve.new.self.groups.sets.map (buffers c.add-2.new.self.map) c.in_ok-reserve.ensures.same
    (λ r x. c.self.invariant r x ∙ sym (ap (λ m. names r (buffers m x)) c.in_err-add-2.ensures.err))

pub invariant_of-self-2 : goal.invariant_of-self-2
invariant_of-self-2 c =
    added c.self.inside.users.groups.sets.map c.insert.new.self.groups.sets.map (buffers c.self.inside.rows.map) (buffers c.add-2.new.self.map) c.self.invariant c.args.cb
    (event_of_call c.args.call.now) c.in_ok-add-2.ensures.ok
    (c.insert.ensures ∙ ap (λ u x y. (c.args.cb == y && is_among x (resources_of (event_of_call c.args.call.now))) || u x y) c.in_ok-reserve.ensures.same)
