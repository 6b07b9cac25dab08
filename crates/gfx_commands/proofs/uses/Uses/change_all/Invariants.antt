use Rattle.std.proofs.Common.{◌++◌, List, ℕ, map, take, drop}
use Rattle.gfx_model.specs.Checks.{Layouts}
use Rattle.gfx_model.specs.Checks.Layouts.{goes}
use Rattle.gfx_commands.specs.Uses.{IsIndex, HasPlaces}
use Rattle.gfx_commands.proofs.uses.Uses.change_all.Given as goal

-- the barriers so far are in the index, and there are places for the others
abbrev pub invariant-loop-barrier : goal.invariant-loop-barrier
invariant-loop-barrier l = record {
  index : (named : List ℕ) (asks : List Layouts) → IsIndex l.fn.self.table.map l.fn.self.agrees named asks
      → IsIndex l.self.table.map l.self.agrees (named ++ map (λ b. b.image) (take l.barrier-index l.barriers)) (asks ++ map (λ b. goes b.image b.before b.after) (take l.barrier-index l.barriers));
  places : HasPlaces l.self.table (map (λ b. b.image) (drop l.barrier-index l.barriers));
}
