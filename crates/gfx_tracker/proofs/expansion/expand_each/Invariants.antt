use Rattle.std.proofs.Common.{◌≡◌, ◌++◌, take}
use Rattle.std.specs.Prelude.{flat_map}
use Rattle.gfx_model.specs.Checks.Turn.{execute}
use Rattle.gfx_ops.specs.Operations.{listed}
use Rattle.gfx_tracker.specs.State.{state_answers}
use Rattle.gfx_tracker.specs.Operations.{ops_of_turn}
use Rattle.gfx_tracker.proofs.expansion.expand_each.Given as goal

-- what the buffers so far do was appended
abbrev pub invariant-cbs : goal.invariant-cbs
invariant-cbs l = l.ops ≡ l.fn.ops ++ flat_map (λ cb. listed l.with_layouts (ops_of_turn (state_answers l.state) (execute cb))) (take l.cb-index l.cbs)
