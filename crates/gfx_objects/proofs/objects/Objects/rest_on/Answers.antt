use Rattle.std.proofs.Common.{◌==◌, if◌then◌else◌, refl, ap, sym, subst, ◌∙◌, arith}
use Rattle.std.specs.Prelude.{option_and_then}
use Rattle.std.specs.FinMap as map
use Rattle.gfx_table.specs.Groups.{is_member}
use Rattle.gfx_model.specs.Views.{detail_bytes}
use Rattle.gfx_objects.specs.declared.object.Object.{Object}
use Rattle.gfx_objects.specs.Object.{detail_of, memory_of}
use Rattle.gfx_objects.specs.Objects.{RestsIn}
use Rattle.gfx_objects.specs.Inside.{kept_of}
use Rattle.gfx_objects.specs.Children.{is_at, count_of}
use Rattle.gfx_objects.proofs.Kept.{none_noted, sound_changed, indexed_changed}
use Rattle.gfx_objects.proofs.Grouped.{grouped_changed}
use Rattle.gfx_objects.proofs.objects.Objects.rest_on.Goals as goal

pub move_to-requires-clause-member : goal.move_to-requires-clause-member
move_to-requires-clause-member c g =
    let some = ap (λ k. map.get k.rows c.args.id) c.self.view_is ∙ c.requires.row in
    ap (λ f. f g c.args.id) c.reserve.ensures.same ∙ c.self.invariant.grouped.by_memory g c.args.id
    ∙ ap (λ q. is_at g (option_and_then (λ (o : Object). memory_of o.detail) q)) some ∙ ap (is_at g) (sym c.memory-before.ensures)

pub invariant_of-self-2 : goal.invariant_of-self-2
invariant_of-self-2 c =
    let s = c.self.inside in
    let o = c.args.object in
    let n = record c.args.object { detail = c.args.detail } in
    let some = ap (λ k. map.get k.rows c.args.id) c.self.view_is ∙ c.requires.row in
    let bytes = ap detail_bytes c.requires.parameters in
    record {
      sound = sound_changed (kept_of s) (record { rows = c.set.new.self.map; ended = s.ended; owned = s.owned.sets.map; spare = s.room }) c.args.id
          n c.set.ensures.map o some refl refl refl c.requires.parameters (λ b is. subst (λ k. RestsIn k (detail_of c.args.detail) b) (sym c.self.view_is) (c.requires.rests b is)) c.self.invariant.sound;
      indexed = indexed_changed s.rows.map c.set.new.self.map (count_of s.children.counts.map) s.bytes s.count c.args.id
          o n c.set.ensures.map some refl bytes c.self.invariant.indexed;
      grouped = grouped_changed s.rows.map c.set.new.self.map (is_member s.owned.sets.map) (is_member s.owned.sets.map) (is_member s.resting.sets.map) (is_member c.move_to.new.groups.sets.map)
          (count_of s.swapchains.counts.map) (count_of s.swapchains.counts.map) c.args.id o c.self.invariant.grouped n c.set.ensures.map some refl c.requires.parameters
          (λ g x. c.move_to.ensures g x
          ∙ ap (λ t. if c.args.id == x then t else is_member c.reserve.new.self.sets.map g x) (sym (ap (is_at g) c.requires.memory))
          ∙ ap (λ f. if c.args.id == x then is_at g (memory_of c.args.detail) else f g x) c.reserve.ensures.same) refl refl;
      has_room = record {
        rows = let a = c.self.invariant.has_room.rows in let b = c.set.ensures.spare in omega (arith, a, b);
        ended = c.self.invariant.has_room.ended;
        children = c.self.invariant.has_room.children;
        swapchains = c.self.invariant.has_room.swapchains;
      };
      noted = none_noted _;
    }
