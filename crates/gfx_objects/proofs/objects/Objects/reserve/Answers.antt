use Rattle.std.proofs.Common.{refl, ap, ◌∙◌, arith}
use Rattle.gfx_table.specs.Groups.{is_member}
use Rattle.gfx_objects.specs.Inside.{kept_of}
use Rattle.gfx_objects.specs.Children.{count_of}
use Rattle.gfx_objects.specs.Objects.{answers}
use Rattle.gfx_objects.proofs.Kept.{none_noted, sound_same, indexed_same}
use Rattle.gfx_objects.proofs.Grouped.{grouped_same}
use Rattle.gfx_objects.proofs.Owned.{owned_anew}
use Rattle.gfx_objects.proofs.Steps.{answers_same}
use Rattle.gfx_objects.proofs.objects.Objects.reserve.Goals as goal

pub invariant_of-self : goal.invariant_of-self
invariant_of-self c = owned_anew c.self.inside c.reserve.new.self c.reserve.ensures.same c.self.invariant

pub invariant_of-self-then-self-n : goal.invariant_of-self-then-self-n
invariant_of-self-then-self-n c = owned_anew c.self.inside c.reserve.new.self c.reserve.ensures.same c.self.invariant

pub returns-in_err-reserve-clause-same : goal.returns-in_err-reserve-clause-same
returns-in_err-reserve-clause-same c =
    let s = c.self.inside in
    answers_same (kept_of s) (record { rows = s.rows.map; ended = s.ended; owned = c.reserve.new.self.sets.map; spare = s.room }) refl refl ∙ ap answers c.self.view_is

pub returns-then-self-n-clause-same : goal.returns-then-self-n-clause-same
returns-then-self-n-clause-same c =
    let s = c.self.inside in
    answers_same (kept_of s) (record { rows = s.rows.map; ended = s.ended; owned = c.reserve.new.self.sets.map; spare = s.room }) refl refl ∙ ap answers c.self.view_is

pub invariant_of-self-in_err-reserve_each : goal.invariant_of-self-in_err-reserve_each
invariant_of-self-in_err-reserve_each c =
    let s = c.self.inside in
    let e = c.reserve_each.ensures in
    let n = c.reserve_each.new in
    let room = c.self.invariant.has_room in
    record {
      sound = sound_same (kept_of s) (record { rows = n.rows.map; ended = n.ended; owned = c.reserve.new.self.sets.map; spare = s.room }) e.rows e.ended c.self.invariant.sound;
      indexed = indexed_same s.rows.map n.rows.map (count_of s.children.counts.map) (count_of n.children.counts.map)
          s.bytes s.count e.rows e.children c.self.invariant.indexed;
      grouped = grouped_same s.rows.map n.rows.map (is_member s.owned.sets.map) (is_member c.reserve.new.self.sets.map) (is_member s.resting.sets.map) (is_member s.resting.sets.map)
          (count_of s.swapchains.counts.map) (count_of n.swapchains.counts.map) e.rows c.reserve.ensures.same refl e.swapchains c.self.invariant.grouped;
      has_room = record {
        rows = let a = room.rows in let b = e.rows_room in omega (arith, a, b);
        ended = let a = room.ended in let b = e.ended_room in omega (arith, a, b);
        children = let a = room.children in let b = e.children_room in omega (arith, a, b);
        swapchains = let a = room.swapchains in let b = e.swapchains_room in omega (arith, a, b);
      };
      noted = none_noted _;
    }

pub returns-in_err-reserve_each-clause-same : goal.returns-in_err-reserve_each-clause-same
returns-in_err-reserve_each-clause-same c =
    let s = c.self.inside in
    let e = c.reserve_each.ensures in
    let n = c.reserve_each.new in
    answers_same (kept_of s) (record { rows = n.rows.map; ended = n.ended; owned = c.reserve.new.self.sets.map; spare = s.room }) e.rows e.ended ∙ ap answers c.self.view_is

pub invariant_of-self-2 : goal.invariant_of-self-2
invariant_of-self-2 c =
    let s = c.self.inside in
    let e = c.reserve_each.ensures in
    let made = c.in_ok-reserve_each.ensures in
    let n = c.reserve_each.new in
    record {
      sound = sound_same (kept_of s) (record { rows = n.rows.map; ended = n.ended; owned = c.reserve.new.self.sets.map; spare = c.max-room.result }) e.rows e.ended c.self.invariant.sound;
      indexed = indexed_same s.rows.map n.rows.map (count_of s.children.counts.map) (count_of n.children.counts.map)
          s.bytes s.count e.rows e.children c.self.invariant.indexed;
      grouped = grouped_same s.rows.map n.rows.map (is_member s.owned.sets.map) (is_member c.reserve.new.self.sets.map) (is_member s.resting.sets.map) (is_member s.resting.sets.map)
          (count_of s.swapchains.counts.map) (count_of n.swapchains.counts.map) e.rows c.reserve.ensures.same refl e.swapchains c.self.invariant.grouped;
      has_room = record { rows = made.rows_made; ended = made.ended_made; children = made.children_made; swapchains = made.swapchains_made };
      noted = none_noted _;
    }

pub returns-clause-same : goal.returns-clause-same
returns-clause-same c =
    let s = c.self.inside in
    let e = c.reserve_each.ensures in
    let n = c.reserve_each.new in
    answers_same (kept_of s) (record { rows = n.rows.map; ended = n.ended; owned = c.reserve.new.self.sets.map; spare = c.max-room.result }) e.rows e.ended ∙ ap answers c.self.view_is
