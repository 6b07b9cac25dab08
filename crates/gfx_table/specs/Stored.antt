-- Rows in a slab, and their keys under ids.
use Rattle.std.specs.Prelude.{◌≡◌, ℕ, true, Some, is_some}
use Rattle.std.specs.Ordering.{nat_cmp}
use Rattle.std.specs.FinMap as map
use Rattle.std.specs.FinMap.{FinMap}
use Rattle.slab.specs.Slab.{Slab, get}
use Rattle.gfx_table.specs.Values.{with_rows}

-- under each id the row at its key
unfoldable pub stored : {X : Type 0} → Slab X → FinMap nat_cmp ℕ → FinMap nat_cmp X
stored rows keys = with_rows (λ id key. get rows key) keys

-- there is a row at each key, and no two ids have one key
pub record AreStored {X : Type 0} (rows : Slab X) (keys : FinMap nat_cmp ℕ) : Type 0 where
  pub there : (id key : ℕ) → map.get keys id ≡ Some key → is_some (get rows key) ≡ true
  pub apart : (id other key : ℕ) → map.get keys id ≡ Some key → map.get keys other ≡ Some key → id ≡ other
