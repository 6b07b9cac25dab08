use Rattle.gfx_callers.proofs.Drawn.{none_drawn}
use Rattle.gfx_callers.proofs.caller.Caller.send.Goals as goal

pub batch-answer-requires-clause-drew : goal.batch-answer-requires-clause-drew
batch-answer-requires-clause-drew g c = none_drawn _ _ c.args.self.now.none_created
