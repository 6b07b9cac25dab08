use Rattle.std.proofs.Common.{◌≡◌, ℕ, ◌||◌, take}
use Rattle.gfx_asked.specs.Bounds.{holds}
use Rattle.gfx_asked.specs.Offsets.{are_in}
use Rattle.gfx_asked.proofs.offsets.Offsets.put_all.Given as goal

abbrev pub invariant-putting : goal.invariant-putting
invariant-putting l = (j : ℕ) → holds l.self.bounds j ≡ (holds l.initial.self.bounds j || are_in (take l.stretch-index l.stretches) j)
