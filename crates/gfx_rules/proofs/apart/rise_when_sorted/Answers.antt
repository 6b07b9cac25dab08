use Rattle.std.proofs.Common.{subst}
use Rattle.std.specs.Prelude.{ℕ, List}
use Rattle.std.specs.List.Sorted.{IsPermutation}
use Rattle.gfx_rules.proofs.Counted.{distinct_in_any_order}
use Rattle.gfx_rules.proofs.apart.rise_when_sorted.Goals as goal

pub returns : goal.returns
returns c = λ yes. distinct_in_any_order c.args.ids.now c.sort_unstable.new.self
    (subst (λ (xs : List ℕ). IsPermutation xs c.sort_unstable.new.self) c.copy_from_slice.ensures.after c.sort_unstable.ensures.permutation) (c.rise.ensures yes)
