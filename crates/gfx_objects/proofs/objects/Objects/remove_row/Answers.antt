use Rattle.std.proofs.Common.{◌≡◌, ◌-◌, ◌==◌, ◌&&◌, false, None, if◌then◌else◌, refl, ap, sym, ◌∙◌, arith}
use Rattle.std.specs.FinMap as map
use Rattle.gfx_table.specs.Groups.{is_member, room_in}
use Rattle.gfx_table.specs.Rows.{remove_none}
use Rattle.gfx_model.specs.Views.{detail_bytes}
use Rattle.gfx_objects.specs.Object.{detail_of}
use Rattle.gfx_objects.specs.Objects.{Kept, answers, owns, was_used}
use Rattle.gfx_objects.specs.Inside.{kept_of}
use Rattle.gfx_objects.specs.Children.{is_at, count_of}
use Rattle.gfx_objects.proofs.Index.{total_removed, len_removed}
use Rattle.gfx_objects.proofs.Kept.{none_noted, used_removed, used_same, sound_same, sound_removed, indexed_same, indexed_removed}
use Rattle.gfx_objects.proofs.Grouped.{grouped_same, grouped_removed}
use Rattle.gfx_objects.proofs.Owned.{still_owned, not_owner}
use Rattle.gfx_objects.proofs.objects.Objects.remove_row.Goals as goal

pub bytes-requires : goal.bytes-requires
bytes-requires c = (c.self.invariant.sound.row c.args.id c.in-Some.object (sym c.in-Some.ensures.value)).within

pub overflow_sub-self : goal.overflow_sub-self
overflow_sub-self c =
    let all = c.self.invariant.indexed.in_all in
    let part = total_removed c.self.inside.rows.map c.args.id c.in-Some.object (sym c.in-Some.ensures.value) (λ id o. detail_bytes (detail_of o.detail)) in
    let is = c.bytes.ensures in
    omega (arith, all, part, is)

pub overflow_sub-self-in-Some : goal.overflow_sub-self-in-Some
overflow_sub-self-in-Some c =
    let all = c.self.invariant.indexed.in_number in
    let less = len_removed c.self.inside.rows.map c.args.id c.in-Some.object (sym c.in-Some.ensures.value) in
    omega (arith, all, less)

pub insert-requires : goal.insert-requires
insert-requires c =
    let room = c.self.invariant.has_room.ended in
    let all = c.self.invariant.indexed.in_number in
    let less = len_removed c.self.inside.rows.map c.args.id c.in-Some.object (sym c.in-Some.ensures.value) in
    omega (arith, room, all, less)

pub invariant_of-self : goal.invariant_of-self
invariant_of-self c =
    let s = c.self.inside in
    let o = c.in-Some.object in
    let some = sym c.in-Some.ensures.value in
    let room = c.self.invariant.has_room in
    record {
      sound = sound_removed (kept_of s) (record { rows = c.remove.new.self.map; ended = c.insert.new.self; owned = c.take_from.new.groups.sets.map; spare = s.room }) c.args.id o
          c.in-Some.ensures.map some (used_removed (kept_of s) (record { rows = c.remove.new.self.map; ended = c.insert.new.self; owned = c.take_from.new.groups.sets.map; spare = s.room }) c.args.id o c.in-Some.ensures.map some c.insert.ensures.ids) c.self.invariant.sound;
      indexed = indexed_removed s.rows.map c.remove.new.self.map (count_of s.children.counts.map) (count_of c.remove-in-Some.new.self.counts.map) s.bytes (s.bytes - c.bytes.result) s.count (s.count - 1) c.args.id o
          c.in-Some.ensures.map some c.remove-in-Some.ensures.counts (ap (λ n. s.bytes - n) c.bytes.ensures) refl c.self.invariant.indexed;
      grouped = grouped_removed s.rows.map c.remove.new.self.map (is_member s.owned.sets.map) (is_member c.take_from.new.groups.sets.map)
          (is_member s.resting.sets.map) (is_member c.take_from-in-Some.new.groups.sets.map) (count_of s.swapchains.counts.map) (count_of c.remove_from.new.self.counts.map) c.args.id o
          c.self.invariant.grouped c.in-Some.ensures.map some
          (λ g x. c.take_from.ensures.members g x ∙ ap (λ its. if is_at g its && c.args.id == x then false else is_member s.owned.sets.map g x) c.owner-owner.ensures)
          (λ g x. c.take_from-in-Some.ensures.members g x ∙ ap (λ its. if is_at g its && c.args.id == x then false else is_member s.resting.sets.map g x) c.memory-memory.ensures)
          (λ g. c.remove_from.ensures.counts g ∙ ap (λ its. count_of s.swapchains.counts.map g - (if is_at g its then 1 else 0)) c.surface-surface.ensures);
      has_room = record {
        rows = let a = room.rows in let b = c.in-Some.ensures.spare in omega (arith, a, b);
        ended =
            let a = room.ended in
            let b = c.insert.ensures.spare in
            let all = c.self.invariant.indexed.in_number in
            let less = len_removed s.rows.map c.args.id o some in
            omega (arith, a, b, all, less);
        children = let a = room.children in let b = c.remove-in-Some.ensures.room in omega (arith, a, b);
        swapchains = let a = room.swapchains in let b = c.remove_from.ensures.room in omega (arith, a, b);
      };
      noted = none_noted _;
    }

pub invariant_of-self-in_default : goal.invariant_of-self-in_default
invariant_of-self-in_default c =
    let s = c.self.inside in
    let none : map.get s.rows.map c.args.id ≡ None = sym c.in_default.ensures.value in
    let same = c.in_default.ensures.map ∙ remove_none s.rows.map c.args.id none in
    let room = c.self.invariant.has_room in
    record {
      sound = sound_same (kept_of s) (record { rows = c.remove.new.self.map; ended = s.ended; owned = s.owned.sets.map; spare = s.room }) same refl c.self.invariant.sound;
      indexed = indexed_same s.rows.map c.remove.new.self.map (count_of s.children.counts.map) (count_of s.children.counts.map)
          s.bytes s.count same refl c.self.invariant.indexed;
      grouped = grouped_same s.rows.map c.remove.new.self.map (is_member s.owned.sets.map) (is_member s.owned.sets.map) (is_member s.resting.sets.map) (is_member s.resting.sets.map)
          (count_of s.swapchains.counts.map) (count_of s.swapchains.counts.map) same refl refl refl c.self.invariant.grouped;
      has_room = record {
        rows = let a = room.rows in let b = c.in_default.ensures.spare in omega (arith, a, b);
        ended = room.ended;
        children = room.children;
        swapchains = room.swapchains;
      };
      noted = none_noted _;
    }

pub returns-in-Some-clause-used : goal.returns-in-Some-clause-used
returns-in-Some-clause-used c =
    let s = c.self.inside in
    let new : Kept = record { rows = c.remove.new.self.map; ended = c.insert.new.self; owned = c.take_from.new.groups.sets.map; spare = s.room } in
    used_removed (kept_of s) new c.args.id c.in-Some.object c.in-Some.ensures.map (sym c.in-Some.ensures.value) c.insert.ensures.ids ∙ ap was_used c.self.view_is

pub returns-in_default-clause-used : goal.returns-in_default-clause-used
returns-in_default-clause-used c =
    let s = c.self.inside in
    let same = c.in_default.ensures.map ∙ remove_none s.rows.map c.args.id (sym c.in_default.ensures.value) in
    used_same (kept_of s) (record { rows = c.remove.new.self.map; ended = s.ended; owned = s.owned.sets.map; spare = s.room }) same refl ∙ ap was_used c.self.view_is

pub returns-in-Some-clause-left : goal.returns-in-Some-clause-left
returns-in-Some-clause-left c x y owned =
    let s = c.self.inside in
    let new : Kept = record { rows = c.remove.new.self.map; ended = c.insert.new.self; owned = c.take_from.new.groups.sets.map; spare = s.room } in
    let member = still_owned s.rows.map (is_member s.owned.sets.map) c.args.id c.in-Some.object c.self.invariant.grouped.by_owner (sym c.in-Some.ensures.value) new c.in-Some.ensures.map
    (is_member c.take_from.new.groups.sets.map)
    (λ g x. c.take_from.ensures.members g x ∙ ap (λ its. if is_at g its && c.args.id == x then false else is_member s.owned.sets.map g x) c.owner-owner.ensures) x y owned in
    let room = c.take_from.ensures.left x y member in
    let was = ap (λ k. room_in k.owned x) c.self.view_is in
    omega (arith, room, was)

pub returns-in-Some-clause-others : goal.returns-in-Some-clause-others
returns-in-Some-clause-others c x free =
    let s = c.self.inside in
    let apart = not_owner (kept_of s) c.args.id c.in-Some.object (sym c.in-Some.ensures.value) x (ap (λ k. owns (answers k) x c.args.id) c.self.view_is ∙ free) in
    let room = c.take_from.ensures.others x (ap (is_at x) c.owner-owner.ensures ∙ apart) in
    let was = ap (λ k. room_in k.owned x) c.self.view_is in
    omega (arith, room, was)
