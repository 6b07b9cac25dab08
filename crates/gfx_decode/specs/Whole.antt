-- Where a whole block leads.
use Rattle.std.specs.Prelude.{◌≡◌, ◌<◌, ◌^◌, ℕ, List}
use Rattle.gfx_model.specs.Blocks.{Position, next_position, side_count}
use Rattle.gfx_decode.specs.Reachable.{IsInReach}

-- the block of these bytes has room here, and the next one is there
pub record LeadsTo (at : Position) (bytes : List ℕ) (next : Position) : Type 0 where
  pub counted : side_count at bytes < 2 ^ 32
  pub behind : next ≡ next_position at bytes
  pub reach : IsInReach next
