-- Sets of offsets, and the stretches of a range that are in one.
use Rattle.std.specs.Prelude.{ℕ, ◌≤◌, ◌&&◌, nat_le, nat_lt, Bool, List}
use Rattle.std.specs.List.{list_any}
use Rattle.gfx_asked.specs.declared.offsets.Stretch.{Stretch}

-- an offset is in a stretch
abbrev pub is_in : Stretch → ℕ → Bool
is_in s j = nat_le s.from j && nat_lt j s.to

-- an offset is in one of some stretches
abbrev pub are_in : List Stretch → ℕ → Bool
are_in stretches j = list_any (λ s. is_in s j) stretches

-- a stretch does not end before it begins
abbrev pub IsForward : Stretch → Type 0
IsForward s = s.from ≤ s.to
