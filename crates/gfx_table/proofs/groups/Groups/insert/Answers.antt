use Rattle.std.proofs.Common.{is_some, Some, None, refl, sym, ap, ◌∙◌, arith}
use Rattle.gfx_table.proofs.Grouping.{kept, spared, one_more, room_less}
use Rattle.gfx_table.proofs.groups.Groups.insert.Goals as goal

pub set-requires : goal.set-requires
set-requires c none =
    let was = sym c.in-Some.ensures.value in
    let room = c.requires (kept c.args.self.now.sets.map c.args.group c.args.id (Some c.in-Some.set.now) was ∙ ap is_some none) in
    let spare = spared c.args.self.now.sets.map c.args.group (Some c.in-Some.set.now) was in
    omega (arith, room, spare)

pub returns-in-Some-clause-members : goal.returns-in-Some-clause-members
returns-in-Some-clause-members c =
    one_more c.args.self.now.sets.map _ c.args.group c.in-Some.set.now c.set.new.self c.args.id (sym c.in-Some.ensures.value) c.set.ensures.map refl

pub returns-in-Some-clause-room : goal.returns-in-Some-clause-room
returns-in-Some-clause-room c =
    room_less c.args.self.now.sets.map _ c.args.group c.in-Some.set.now c.set.new.self (sym c.in-Some.ensures.value) c.set.ensures.spare refl

pub returns-in_default-clause-members : goal.returns-in_default-clause-members
returns-in_default-clause-members c =
    let was = sym c.in_default.ensures.value in
    let room = c.requires (kept c.args.self.now.sets.map c.args.group c.args.id None was) in
    let none = spared c.args.self.now.sets.map c.args.group None was in
    absurd (omega (arith, room, none))
