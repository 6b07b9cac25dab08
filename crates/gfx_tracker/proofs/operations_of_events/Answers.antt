use Rattle.gfx_tracker.proofs.Operations.{operations_of_events}
use Rattle.gfx_tracker.proofs.operations_of_events.Goals as goal

pub returns : goal.returns
returns c = operations_of_events
