use Rattle.gfx_laws.proofs.EverBound.{buffers_history}
use Rattle.gfx_laws.proofs.buffers_by_bindings.Goals as goal

pub returns : goal.returns
returns c = buffers_history
