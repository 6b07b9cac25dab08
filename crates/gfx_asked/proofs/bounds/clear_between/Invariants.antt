use Rattle.std.proofs.Common.{◌≡◌, ℕ, ◌&&◌, nat_lt, false}
use Rattle.std.specs.BTreeMap.{btree_map_len}
use Rattle.gfx_asked.specs.Bounds.{change_at}
use Rattle.gfx_asked.proofs.bounds.clear_between.Given as goal

abbrev pub invariant-clearing : goal.invariant-clearing
invariant-clearing l = record {
  outside : (j : ℕ) → nat_lt l.from j && nat_lt j l.to ≡ false → change_at l.bounds j ≡ change_at l.initial.bounds j;
}

abbrev pub decreases-clearing : goal.decreases-clearing
decreases-clearing l = btree_map_len l.bounds
