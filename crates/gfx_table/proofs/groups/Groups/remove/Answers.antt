use Rattle.std.proofs.Common.{ℕ, length, is_some, Some, refl, sym, ap, ◌∙◌}
use Rattle.std.specs.FinMap as map
use Rattle.gfx_table.specs.Dense.{is_listed}
use Rattle.gfx_table.proofs.Densing.{nothing_of, is_zero}
use Rattle.gfx_table.proofs.Grouping.{one_less, last_less, none_in, room_more, last_room, last_left}
use Rattle.gfx_table.proofs.groups.Groups.remove.Goals as goal

pub returns-in_default-clause-members : goal.returns-in_default-clause-members
returns-in_default-clause-members c = none_in c.args.self.now.sets.map c.args.group c.args.id (sym c.in_default.ensures.value)

pub returns-then-is_empty-clause-members : goal.returns-then-is_empty-clause-members
returns-then-is_empty-clause-members c =
    let nothing = nothing_of c.ids.result.now (is_zero (length c.ids.result.now) (sym c.if-is_empty.ensures)) in
    let none = λ (x : ℕ). sym (ap (λ m. is_some (map.get m x)) c.remove-member.ensures.map) ∙ sym (c.ids.ensures.all x) ∙ ap (is_listed x) nothing in
    last_less c.args.self.now.sets.map c.remove-set.new.self.map c.args.group c.in-Some.set.now c.args.id (sym c.in-Some.ensures.value) none c.remove-member.new.self c.remove-set.ensures.map

pub returns-then-is_empty-clause-left : goal.returns-then-is_empty-clause-left
returns-then-is_empty-clause-left c = last_left c.args.self.now.sets.map c.remove-set.new.self.map c.args.group c.remove-member.new.self c.remove-set.ensures.map

pub returns-then-is_empty-clause-others : goal.returns-then-is_empty-clause-others
returns-then-is_empty-clause-others c = last_room c.args.self.now.sets.map c.remove-set.new.self.map c.args.group c.remove-member.new.self c.remove-set.ensures.map

pub returns-else-is_empty-clause-left : goal.returns-else-is_empty-clause-left
returns-else-is_empty-clause-left c g x member =
    room_more c.args.self.now.sets.map _ c.args.group (Some c.in-Some.set.now) c.remove-member.new.self (sym c.in-Some.ensures.value) c.remove-member.ensures.spare refl g

pub returns-else-is_empty-clause-others : goal.returns-else-is_empty-clause-others
returns-else-is_empty-clause-others c g apart =
    room_more c.args.self.now.sets.map _ c.args.group (Some c.in-Some.set.now) c.remove-member.new.self (sym c.in-Some.ensures.value) c.remove-member.ensures.spare refl g

pub returns-else-is_empty-clause-members : goal.returns-else-is_empty-clause-members
returns-else-is_empty-clause-members c =
    one_less c.args.self.now.sets.map _ c.args.group c.in-Some.set.now c.remove-member.new.self c.args.id (sym c.in-Some.ensures.value) c.remove-member.ensures.map refl
