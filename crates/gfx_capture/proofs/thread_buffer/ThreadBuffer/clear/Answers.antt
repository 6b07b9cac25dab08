use Rattle.gfx_capture.proofs.Buffers.{nothing}
use Rattle.gfx_capture.proofs.thread_buffer.ThreadBuffer.clear.Goals as goal

pub invariant_of-self : goal.invariant_of-self
invariant_of-self c = (nothing c.self.inside.minor _ c.self.invariant.version c.clear.ensures.items).1

pub returns-clause-empty : goal.returns-clause-empty
returns-clause-empty c = (nothing c.self.inside.minor _ c.self.invariant.version c.clear.ensures.items).0
