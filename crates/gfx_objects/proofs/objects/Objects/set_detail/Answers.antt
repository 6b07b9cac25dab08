use Rattle.std.proofs.Common.{refl, ap, ◌∙◌, arith}
use Rattle.std.specs.Prelude.{option_map}
use Rattle.std.specs.FinMap as map
use Rattle.gfx_table.specs.Groups.{is_member}
use Rattle.gfx_model.specs.Questions.{Binding}
use Rattle.gfx_model.specs.Views.{detail_bytes}
use Rattle.gfx_objects.specs.Object.{memory_of}
use Rattle.gfx_objects.specs.Inside.{kept_of}
use Rattle.gfx_objects.specs.Children.{count_of}
use Rattle.gfx_objects.proofs.Kept.{none_noted, sound_changed, indexed_changed}
use Rattle.gfx_objects.proofs.Grouped.{stays_under, grouped_changed}
use Rattle.gfx_objects.proofs.Resting.{still_rests}
use Rattle.gfx_objects.proofs.objects.Objects.set_detail.Goals as goal

pub invariant_of-self : goal.invariant_of-self
invariant_of-self c =
    let s = c.self.inside in
    let o = c.args.object in
    let n = record c.args.object { detail = c.args.detail } in
    let some = ap (λ k. map.get k.rows c.args.id) c.self.view_is ∙ c.requires.row in
    let bytes = ap detail_bytes c.requires.parameters in
    let same = ap (option_map (λ (b : Binding). b.memory)) c.requires.bound in
    record {
      sound = sound_changed (kept_of s) (record { rows = c.set.new.self.map; ended = s.ended; owned = s.owned.sets.map; spare = s.room }) c.args.id
          n c.set.ensures.map o some refl refl refl c.requires.parameters (still_rests (kept_of s) c.self.invariant.sound c.args.id o some c.args.detail c.requires.parameters c.requires.bound) c.self.invariant.sound;
      indexed = indexed_changed s.rows.map c.set.new.self.map (count_of s.children.counts.map) s.bytes s.count c.args.id
          o n c.set.ensures.map some refl bytes c.self.invariant.indexed;
      grouped = grouped_changed s.rows.map c.set.new.self.map (is_member s.owned.sets.map) (is_member s.owned.sets.map) (is_member s.resting.sets.map) (is_member s.resting.sets.map)
          (count_of s.swapchains.counts.map) (count_of s.swapchains.counts.map) c.args.id o c.self.invariant.grouped n c.set.ensures.map some refl c.requires.parameters
          (stays_under (λ o. memory_of o.detail) s.rows.map c.args.id (is_member s.resting.sets.map) c.self.invariant.grouped.by_memory o n some same) refl refl;
      has_room = record {
        rows = let a = c.self.invariant.has_room.rows in let b = c.set.ensures.spare in omega (arith, a, b);
        ended = c.self.invariant.has_room.ended;
        children = c.self.invariant.has_room.children;
        swapchains = c.self.invariant.has_room.swapchains;
      };
      noted = none_noted _;
    }
