-- Signals of fences and semaphores by their ids.
use Rattle.std.specs.Prelude.{ℕ, Bool, false, unwrap_or}
use Rattle.std.specs.Ordering.{nat_cmp}
use Rattle.std.specs.FinMap as map
use Rattle.std.specs.FinMap.{FinMap}

-- it is kept and signalled
abbrev pub is_signalled : FinMap nat_cmp Bool → ℕ → Bool
is_signalled signals id = unwrap_or (map.get signals id) false
