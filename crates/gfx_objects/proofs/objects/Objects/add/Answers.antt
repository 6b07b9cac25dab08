use Rattle.std.proofs.Common.{◌≤◌, ◌+◌, ◌-◌, ◌<◌, ◌==◌, ◌&&◌, ◌||◌, if◌then◌else◌, refl, ap, ◌∙◌, arith}
use Rattle.std.specs.FinMap as map
use Rattle.gfx_table.specs.Groups.{is_member}
use Rattle.gfx_model.specs.Views.{detail_bytes}
use Rattle.gfx_model.specs.Limits.{max_live_bytes, max_live_objects}
use Rattle.gfx_objects.specs.Object.{detail_of, surface_of}
use Rattle.gfx_objects.specs.Objects.{Kept, was_used, bytes_in}
use Rattle.gfx_objects.specs.Inside.{kept_of}
use Rattle.gfx_objects.specs.Children.{is_at, count_of}
use Rattle.gfx_objects.proofs.Asked.{children_few, few_pass}
use Rattle.gfx_objects.proofs.Kept.{none_noted, unused_fresh, used_inserted, sound_created, indexed_created}
use Rattle.gfx_objects.proofs.Grouped.{grouped_created}
use Rattle.gfx_objects.proofs.objects.Objects.add.Goals as goal

pub add-requires-clause-few : goal.add-requires-clause-few
add-requires-clause-few c =
    let is = c.self.invariant.indexed.by_parent c.args.object.parent in
    let few = children_few (kept_of c.self.inside) c.args.object.parent in
    let all = c.self.invariant.sound.few in
    omega (arith, is, few, all)

pub add_to-requires-clause-few : goal.add_to-requires-clause-few
add_to-requires-clause-few c surface its =
    let is = c.self.invariant.grouped.by_surface surface in
    let few = few_pass (λ o. is_at surface (surface_of (detail_of o.detail))) c.self.inside.rows.map in
    let all = c.self.invariant.sound.few in
    omega (arith, is, few, all)

pub insert-requires-clause-new : goal.insert-requires-clause-new
insert-requires-clause-new c =
    let s = c.self.inside in
    unused_fresh (kept_of s) c.args.object.id (ap (λ k. was_used k c.args.object.id) c.self.view_is ∙ c.requires.unused)

pub invariant_of-self : goal.invariant_of-self
invariant_of-self c =
    let s = c.self.inside in
    let o = c.args.object in
    let room = c.self.invariant.has_room in
    let one = c.requires.spare in
    let here = ap (λ k. k.spare) c.self.view_is in
    let unused = ap (λ k. was_used k o.id) c.self.view_is ∙ c.requires.unused in
    let none = unused_fresh (kept_of s) o.id unused in
    let few : map.len s.rows.map < max_live_objects = let a = ap (λ k. map.len k.rows) c.self.view_is in let b = c.requires.few in omega (arith, a, b) in
    let small : bytes_in s.rows.map + detail_bytes (detail_of o.detail) ≤ max_live_bytes = let a = ap (λ k. bytes_in k.rows) c.self.view_is in let b = c.requires.small in omega (arith, a, b) in
    record {
      sound = sound_created (kept_of s) (record { rows = c.insert.new.self.map; ended = s.ended; owned = c.put_in.new.groups.sets.map; spare = s.room - 1 }) o.id o
          c.insert.ensures.map unused refl c.requires.row c.requires.unbound few small c.self.invariant.sound;
      indexed = indexed_created s.rows.map c.insert.new.self.map (count_of s.children.counts.map) (count_of c.add.new.self.counts.map) s.bytes (s.bytes + c.bytes.result) s.count (s.count + 1) o.id o
          c.insert.ensures.map none c.add.ensures.counts (ap (λ n. s.bytes + n) c.bytes.ensures) refl c.self.invariant.indexed;
      grouped = grouped_created s.rows.map c.insert.new.self.map (is_member s.owned.sets.map) (is_member c.put_in.new.groups.sets.map)
          (is_member s.resting.sets.map) (is_member s.resting.sets.map) (count_of s.swapchains.counts.map) (count_of c.add_to.new.self.counts.map) o.id o
          c.self.invariant.grouped c.insert.ensures.map none c.requires.unbound
          (λ g x. c.put_in.ensures.members g x ∙ ap (λ its. (is_at g its && o.id == x) || is_member s.owned.sets.map g x) c.owner-owner.ensures) refl
          (λ g. c.add_to.ensures.counts g ∙ ap (λ its. count_of s.swapchains.counts.map g + (if is_at g its then 1 else 0)) c.surface-surface.ensures);
      has_room = record {
        rows = let a = room.rows in let b = c.insert.ensures.spare in omega (arith, a, b, one, here);
        ended = let a = room.ended in omega (arith, a, one, here);
        children = let a = room.children in let b = c.add.ensures.room in omega (arith, a, b, one, here);
        swapchains = let a = room.swapchains in let b = c.add_to.ensures.room in omega (arith, a, b, one, here);
      };
      noted = none_noted _;
    }

pub returns-clause-used : goal.returns-clause-used
returns-clause-used c =
    let s = c.self.inside in
    let new : Kept = record { rows = c.insert.new.self.map; ended = s.ended; owned = c.put_in.new.groups.sets.map; spare = s.room - 1 } in
    used_inserted (kept_of s) new c.args.object.id c.args.object c.insert.ensures.map refl ∙ ap (λ k. λ other. c.args.object.id == other || was_used k other) c.self.view_is
