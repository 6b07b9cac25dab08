use Rattle.gfx_ops.proofs.Changes.{operations_are_changes}
use Rattle.gfx_ops.proofs.operations_are_changes.Goals as goal

pub returns : goal.returns
returns c = operations_are_changes
