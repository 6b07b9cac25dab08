-- Positions that the blocks before may have led to.
use Rattle.std.specs.Prelude.{◌≡◌, ℕ, ◌+◌, ◌-◌, ◌*◌, ◌^◌, ◌≤◌, ⊤}
use Rattle.gfx_model.specs.Blocks.{Position}
use Rattle.gfx_decode.specs.Stage.{Stage, Fresh, At, Failed}

-- each side has at most 2^32 blocks, and a block at most 12 + 2^27 bytes
pub record IsInReach (at : Position) : Type 0 where
  pub counted : at.number ≡ at.inside + at.outside + 1
  pub inside : at.inside ≤ 2 ^ 32
  pub outside : at.outside ≤ 2 ^ 32
  pub offset : at.offset ≤ at.number * 2 ^ 28

-- a stage that calls may lead to
abbrev pub IsReachable : Stage → Type 0
IsReachable Fresh = ⊤
IsReachable (At minor at) = IsInReach at × (1 ≤ minor) × (minor ≤ 2)
IsReachable (Failed why) = ⊤

-- how many blocks may still come
abbrev pub blocks_ahead : Stage → ℕ
blocks_ahead Fresh = 2 ^ 33 + 2
blocks_ahead (At minor at) = 2 ^ 33 + 2 - at.number
blocks_ahead (Failed why) = 0

-- so many blocks or more were read
abbrev pub IsBehind : ℕ → Stage → Type 0
IsBehind count Fresh = ⊥
IsBehind count (At minor at) = count + 1 ≤ at.number
IsBehind count (Failed why) = ⊥
