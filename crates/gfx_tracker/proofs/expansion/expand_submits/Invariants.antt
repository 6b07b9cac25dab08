use Rattle.std.proofs.Common.{◌≡◌, ◌++◌, take}
use Rattle.std.specs.Prelude.{flat_map}
use Rattle.gfx_types.specs.declared.lists.Submit.{Submit}
use Rattle.gfx_model.specs.Checks.Turn.{execute}
use Rattle.gfx_ops.specs.Operations.{listed}
use Rattle.gfx_tracker.specs.State.{state_answers}
use Rattle.gfx_tracker.specs.Operations.{ops_of_turn}
use Rattle.gfx_tracker.proofs.expansion.expand_submits.Given as goal

-- what the buffers of the submits so far do was appended
abbrev pub invariant-submits : goal.invariant-submits
invariant-submits l =
    l.ops ≡ l.fn.ops ++ flat_map (λ (s : Submit). flat_map (λ cb. listed l.with_layouts (ops_of_turn (state_answers l.state) (execute cb))) s.cbs) (take l.submit-index l.submits)
