use Rattle.gfx_capture.proofs.Buffers.{nothing}
use Rattle.gfx_capture.proofs.thread_buffer.ThreadBuffer.new.Goals as goal

pub invariant_of-result : goal.invariant_of-result
invariant_of-result c = (nothing c.args.minor _ c.requires c.new.ensures.items).1

pub returns-clause-empty : goal.returns-clause-empty
returns-clause-empty c = (nothing c.args.minor _ c.requires c.new.ensures.items).0
