use Rattle.std.proofs.Common.{ℕ, ap, sym, ◌∙◌, arith, ◌==◌, if◌then◌else◌}
use Rattle.std.specs.FinMap as map
use Rattle.std.specs.FinMap.{get-empty, len-empty}
use Rattle.std.specs.Ordering.{nat_cmp}
use Rattle.gfx_table.specs.Rows.{total}
use Rattle.gfx_table.specs.Groups.{is_member}
use Rattle.gfx_model.specs.Views.{detail_bytes}
use Rattle.gfx_objects.specs.declared.object.Object.{Object}
use Rattle.gfx_objects.specs.Children.{count_of}
use Rattle.gfx_objects.specs.Object.{detail_of}
use Rattle.gfx_objects.proofs.Kept.{none_noted}
use Rattle.gfx_objects.proofs.Index.{total_empty}
use Rattle.gfx_objects.proofs.Grouped.{no_groups}
use Rattle.gfx_objects.proofs.Steps.{answers_none}
use Rattle.gfx_objects.proofs.objects.Objects.new.Goals as goal

pub invariant_of-result : goal.invariant_of-result
invariant_of-result c =
    let none = λ (id : ℕ). ap (λ m. map.get m id) c.new.ensures ∙ get-empty nat_cmp id in
    let nothing = λ (weigh : ℕ → Object → ℕ). ap (total weigh) c.new.ensures ∙ total_empty weigh in
    record {
      sound = record {
        row = λ id o some. let n = none id in absurd (grind (arith, n, some));
        bound = λ id o b some is. let n = none id in absurd (grind (arith, n, some));
        few = let n = ap map.len c.new.ensures ∙ len-empty nat_cmp Object in omega (arith, n);
        small = let n = nothing (λ id o. detail_bytes (detail_of o.detail)) in omega (arith, n);
      };
      indexed = record {
        by_parent = λ parent. ap (λ f. f parent) c.new-3.ensures ∙ sym (nothing (λ id o. if o.parent == parent then 1 else 0));
        in_all = sym (nothing (λ id o. detail_bytes (detail_of o.detail)));
        in_number = sym (ap map.len c.new.ensures ∙ len-empty nat_cmp Object);
      };
      grouped = no_groups c.new.result.map (is_member c.new-5.result.sets.map) (is_member c.new-6.result.sets.map) (count_of c.new-4.result.counts.map)
          c.new.ensures c.new-5.ensures c.new-6.ensures c.new-4.ensures;
      has_room = record { rows = omega arith; ended = omega arith; children = omega arith; swapchains = omega arith };
      noted = none_noted _;
    }

pub returns-clause-plain : goal.returns-clause-plain
returns-clause-plain c =
    answers_none (record { rows = c.new.result.map; ended = c.new-2.result; owned = c.new-5.result.sets.map; spare = 0 }) c.new.ensures c.new-2.ensures
