use Rattle.std.proofs.Common.{ℕ, is_some, Some, None, refl, sym, ap, ◌∙◌, arith}
use Rattle.std.specs.FinMap as map
use Rattle.std.specs.FinMap.{get-empty}
use Rattle.std.specs.Ordering.{nat_cmp}
use Rattle.gfx_table.proofs.Grouping.{as_before, room_more, room_there}
use Rattle.gfx_table.proofs.groups.Groups.reserve.Goals as goal

pub returns-in-Some-clause-same : goal.returns-in-Some-clause-same
returns-in-Some-clause-same c =
    as_before c.args.self.now.sets.map _ c.args.group (Some c.in-Some.set.now) c.reserve.new.self (sym c.in-Some.ensures.value) (λ x. ap (λ m. is_some (map.get m x)) c.reserve.ensures.map) refl

pub returns-in-Some-clause-ok : goal.returns-in-Some-clause-ok
returns-in-Some-clause-ok c =
    rw (room_there c.args.self.now.sets.map (map.insert c.args.self.now.sets.map c.args.group c.reserve.new.self) c.args.group c.reserve.new.self refl) c.reserve.ensures.ok

pub returns-in-Some-clause-room : goal.returns-in-Some-clause-room
returns-in-Some-clause-room c =
    room_more c.args.self.now.sets.map _ c.args.group (Some c.in-Some.set.now) c.reserve.new.self (sym c.in-Some.ensures.value) c.reserve.ensures.spare refl

pub returns-clause-same : goal.returns-clause-same
returns-clause-same c =
    let made = c.set-2.ensures.map ∙ ap (λ m. map.insert m c.args.group c.reserve-2.new.self) c.in_ok-reserve-2.ensures.map in
    let nothing = λ (x : ℕ). ap (λ m. is_some (map.get m x)) (c.reserve-2.ensures.map ∙ c.new-set.ensures) ∙ ap is_some (get-empty nat_cmp x) in
    as_before c.args.self.now.sets.map c.set-2.new.self.map c.args.group None c.reserve-2.new.self (sym c.in_default.ensures.value) nothing made

pub returns-clause-ok : goal.returns-clause-ok
returns-clause-ok c =
    let there = room_there c.reserve-3.new.self.map c.set-2.new.self.map c.args.group c.reserve-2.new.self c.set-2.ensures.map in
    omega (arith, there, c.in_ok-reserve.ensures.ok)

pub returns-clause-room : goal.returns-clause-room
returns-clause-room c =
    let made = c.set-2.ensures.map ∙ ap (λ m. map.insert m c.args.group c.reserve-2.new.self) c.in_ok-reserve-2.ensures.map in
    room_more c.args.self.now.sets.map c.set-2.new.self.map c.args.group None c.reserve-2.new.self (sym c.in_default.ensures.value) (omega arith) made
